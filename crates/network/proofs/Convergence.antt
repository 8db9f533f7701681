-- Of each net that is reached: who has nothing under way shows the server's text, each letter stands once, and what is performed is done at once.
use Rattle.std.proofs.Common.{◌≡◌, ℕ, ◌+◌, ◌≤◌, true, List, [], ◌∷◌, ◌++◌, length, take, drop, refl, sym, ap, subst, ◌∙◌, arith}
use Rattle.std.proofs.lemmas.List.{take_all, drop_all, nil_from_length, length_push, same_from_push}
use mathlib.Core.List.Memᴰ
use Rattle.operation.specs.Letters.{◌∈◌, Once}
use Rattle.operation.specs.Laws.{Kind, Laws, apply_all}
use Rattle.server.specs.Sessions.{Seat}
use Rattle.network.specs.declared.message.Message.{Message}
use Rattle.network.specs.declared.message.Message.TheVariants as message
use Rattle.network.specs.Runs.{Row, Deed, Life, Net, ended_at, performing, performs, reports, takes, hears, sees, joins, ends, crashes, Step, Reachable, count_of, at}
use Rattle.network.specs.Messages.{operations_in}
use Rattle.network.specs.OneRecord.{taken_of, server, life, NoOperation, Convergence, AtMostOnce}
use Rattle.network.proofs.Invariants.{replay, Alive}
use Rattle.network.proofs.Stacks.{replay_clean, stack_clean}
use Rattle.network.proofs.Seats.{everywhere}
use Rattle.network.proofs.Nets.{good, recorded_length}

module _ {A : Type 0} (k : Kind A) (l : Laws k) where
  none_under_way : (q : List (Message k.Op)) → NoOperation k q → operations_in q ≡ 0
  unfolding operations_in
  none_under_way [] h = refl
  none_under_way (message.Operation m ∷ q) h = absurd (h m (Memᴰ.head refl))
  none_under_way (message.Revision r ∷ q) h = none_under_way q (λ m u. h m (Memᴰ.tail u))

  -- a life that has seen everything and has nothing under way
  settled : (c : ℕ) (rows : List (Row k.Op)) (seat : Seat k.Op) (v : Life k) → Alive k c rows seat v → seat.connected ≡ true →
      NoOperation k v.queue → v.replica.revision ≡ length rows → (v.replica.text ≡ replay k rows) × (v.replica.pending ≡ [])
  unfolding apply_all count_of
  settled c rows seat v a u q h =
      let none : drop v.replica.revision rows ≡ [] = drop_all v.replica.revision rows (omega arith) in
      let p : v.replica.pending ≡ [] = nil_from_length v.replica.pending (omega (arith, (a.grid u).count, ap (taken_of c) none, none_under_way v.queue q)) in (
        a.copy.text ∙ ap (λ os. apply_all k os (replay k (take v.replica.revision rows))) p
            ∙ ap (λ es. replay k es) (take_all v.replica.revision rows (omega arith)),
        p,
      )

  pub convergence : Convergence k
  convergence n r c u q h =
      let g = good k l n r in
      let s = settled c n.rows (n.server.seats c) (n.lives c) (g.alive c (g.seated.given c u)) u q (h ∙ recorded_length k l n g.recorded) in
      (s.0 ∙ sym g.recorded.text, s.1)

  pub at_most_once : AtMostOnce k
  at_most_once n r server h = subst (λ t. Once (k.letters t)) (sym (good k l n r).recorded.text) (replay_clean k l n.rows (good k l n r).recorded.once)
  at_most_once n r (life c) h = let y = ((good k l n r).alive c h).copy in subst (λ t. Once (k.letters t)) (sym y.text) (stack_clean k l (n.lives c).site _ _ _ y.stack)

  -- what one step performs, if it performs anything in life c
  abbrev Performed : Life k → Life k → Type 0
  Performed v w = (d : Deed k) → w.deeds ≡ v.deeds ++ d ∷ [] →
      (d.before ≡ v.replica.text) × (w.replica.text ≡ k.apply d.op d.before) × ((x : A) → x ∈ k.puts d.op → x ∈ k.letters w.replica.text)

  performs_none : (v w : Life k) → length w.deeds ≤ length v.deeds → Performed v w
  performs_none v w e d f = absurd (let h : length w.deeds ≡ length v.deeds + 1 = ap length f ∙ length_push v.deeds d in omega arith)

  none_performs : (n : Net k) (c : ℕ) (w : Life k) → length w.deeds ≤ length (n.lives c).deeds → (j : ℕ) → Performed (n.lives j) (at c w n.lives j)
  none_performs n c w h = everywhere (λ j v. Performed (n.lives j) v) c w n.lives (performs_none (n.lives c) w h)
      (λ j _. performs_none (n.lives j) (n.lives j) (omega arith))

  performs_one : (v : Life k) (o : k.Op) → Performed v (performing k o v)
  performs_one v o d f = let e : record { op = o; before = v.replica.text } ≡ d = (same_from_push v.deeds v.deeds _ d f).1 in (
    ap (λ (d : Deed k). d.before) (sym e),
    ap (λ (d : Deed k). k.apply d.op d.before) e,
    (λ x m. l.put_stands o v.replica.text x (subst (λ (d : Deed k). x ∈ k.puts d.op) (sym e) m)),
  )

  pub done_at_once : (n m : Net k) → Reachable k n → Step k n m → (c : ℕ) → Performed (n.lives c) (m.lives c)
  done_at_once n _ r (performs c o u s f x a) = everywhere (λ j v. Performed (n.lives j) v) c (performing k o (n.lives c)) n.lives (performs_one (n.lives c) o)
      (λ j _. performs_none (n.lives j) (n.lives j) (omega arith))
  done_at_once n _ r (reports c u) = none_performs n c _ (omega arith)
  done_at_once n _ r (takes c m rest u q) = none_performs n c _ (omega arith)
  done_at_once n _ r (hears c i rest u q) = none_performs n c _ (omega arith)
  done_at_once n _ r (sees c e before after u q f s) = none_performs n c _ (omega arith)
  done_at_once n _ r (joins p i a b) = none_performs n n.connections _ (omega arith)
  done_at_once n _ r (ends c u) = none_performs n c _ (omega arith)
  done_at_once n _ r crashes = λ c. performs_none (n.lives c) (ended_at k (length n.server.history) (n.lives c)) (omega arith)
