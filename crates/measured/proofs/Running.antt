-- Rows are played one after the other.
use Rattle.std.proofs.Common.{◌≡◌, ◌≢◌, ℕ, ◌+◌, ◌<◌, ◌≤◌, List, length, get_or, drop, Err, Result, ◌==◌, sym, ap, ◌∙◌}
use Rattle.std.proofs.lemmas.Bool.{cond-false, ne_eqb}
use Rattle.std.proofs.lemmas.List.{drop_more, drop_all}
use Rattle.operation.specs.declared.entry.Entry.{Entry}
use Rattle.operation.specs.declared.entry.Submission.{Submission}
use Rattle.server.specs.declared.refusal.Refusal.{Refusal}
use Rattle.server.specs.declared.refusal.Refusal.TheVariants.{OutOfMemory}
use Rattle.server.specs.declared.server.Server.{Server}
use Rattle.server.specs.Servers.{Op, Leaves, Taking, done, no_memory, take_after, room_of, state_of}
use Rattle.measured.specs.declared.row.Row.{Row}
use Rattle.measured.specs.Rows.{run, served, operation_of}

module _ {S : Type 0} (step : Row → S → S) (rs : List Row) (k : ℕ) (s : S) where
  pub run_all : length rs ≤ k → run step (drop k rs) s ≡ s
  unfolding run
  run_all h = ap (λ l. run step l s) (drop_all k rs h)

  pub run_more : (r : Row) → k < length rs → run step (drop k rs) s ≡ run step (drop (k + 1) rs) (step (get_or rs k r) s)
  unfolding run
  run_more r h = ap (λ l. run step l s) (drop_more rs k r h)

-- memory was not wanting
took : (m : Submission Op) {was now : Server} {r : Result (Entry Op) Refusal} → r ≢ Err OutOfMemory → Taking m was r now →
    Leaves was now (take_after (room_of was) m (state_of was))
took m n (done e l) = l
took m n (no_memory e l) = absurd (n e)

-- a row that is none of joining has been taken
pub taken_row : (row : Row) {o : Op} {was now : Server} {r : Result (Entry Op) Refusal} → row.kind ≢ 3 → o ≡ operation_of row → r ≢ Err OutOfMemory →
    Taking (record { revision = row.revision; op = o }) was r now → Leaves was now (served (room_of was) row (state_of was))
taken_row row {o} {was} k e n h =
    let l = took (record { revision = row.revision; op = o }) n h in
    record {
      state = l.state ∙ ap (λ p. take_after (room_of was) (record { revision = row.revision; op = p }) (state_of was)) e
          ∙ sym (cond-false (row.kind == 3) _ _ (ne_eqb row.kind 3 k));
      room = l.room;
    }
