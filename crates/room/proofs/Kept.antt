-- What the server's journal keeps: each entry that is taken can come next, and a crash leaves what the server has.
use Rattle.std.proofs.Common.{◌≡◌, ℕ, ◌<◌, true, List, [], ◌∷◌, ◌++◌, length, Option, Result, Some, None, Ok, Err, is_some, refl, sym, ap, ◌∙◌, subst, arith, inl, inr}
use Rattle.std.specs.Prelude.{OnOk, OnErr, ◌⊎◌}
use Rattle.std.proofs.Math.Logic.{∥∥₁_elim, ∥∥₁_map, ∥∥₁_prop, ⊎_elim}
use Rattle.std.proofs.Props.{props}
use Rattle.std.proofs.lemmas.Bool.{leb-false, le-leb, false≢true}
use Rattle.std.proofs.lemmas.Option.{none-some, same_Some}
use Rattle.std.specs.IoError.{error_kind}
use Rattle.std.specs.declared.io.ErrorKind.TheVariants.{OutOfMemory}
use Rattle.operation.specs.declared.entry.Entry.{Entry}
use Rattle.operation.specs.declared.entry.Submission.{Submission}
use Rattle.operation.specs.declared.operation.Operation.TheVariants.{Noop, Insert, Delete}
use Rattle.operation.specs.Edits.{site}
use Rattle.text.specs.Texts.{Letter, refusal_at}
use Rattle.text.specs.Coded.{coded}
use Rattle.link.specs.Letters.{is_number}
use Rattle.link.specs.Messages.{is_fit_operation}
use Rattle.server.specs.declared.server.Server.{Server}
use Rattle.server.specs.Sessions.{free, ServerState}
use Rattle.server.specs.Servers.{Op, state_of, room_of, Taking, done, no_memory, Replayed, replayed, restarted, resumed, started, take_answer, take_after}
use Rattle.server.proofs.Replays.{all_done, replayed-more}
use Rattle.server.proofs.Seats.{connected_below}
use Rattle.server.proofs.Takes.{become, Took, took, site_become}
use Rattle.journal.specs.declared.record.Record.{Record}
use Rattle.journal.specs.declared.record.Record.TheVariants as record_of
use Rattle.journal.specs.declared.refusal.Refusal.{Refusal}
use Rattle.std.specs.declared.io.Error.{Error}
use Rattle.journal.specs.declared.error.JournalError.{JournalError}
use Rattle.journal.specs.declared.error.JournalError.TheVariants.{NotOpen, Refused, Store}
use Rattle.journal.specs.declared.error.OpenError.TheVariants.{Damaged}
use Rattle.journal.specs.Contents.{Contents, nothing_yet, counts_of, refusal, with_record, next, with_records}
use Rattle.journal.specs.Journals.{JournalState, appended, committed, crashed, IsStoreError}
use Rattle.journal.specs.Openings.{Opens, NotOpens}
use Rattle.journal.specs.Durability.{Life, born, Runs, here, on, appends, commits, crashes, opens}
use Rattle.journal.proofs.Coming.{EntryCan, entry_can, entry_can-none, next-some, none_then}
use Rattle.journal.proofs.Sequences.{with_first}
use Rattle.journal.proofs.FirstParts.{first_of_nothing}
use Rattle.journal.proofs.Durability.{durable}
use Rattle.room.specs.Kept.{committed_life, Lasts, WantsMemory, contents_of, Follows}

-- WHAT THE SERVER TAKES can come next in its journal

fit_operation : (o : Op) (m : ℕ) → site o < 16 → refusal_at 65536 m o ≡ None → is_fit_operation o ≡ true
fit_operation (Noop i) m below none = le-leb i 15 (omega arith)
fit_operation (Insert i p x) m below none = rw (le-leb i 15 (omega arith)) (none_then (is_number x) _ _ none).0
fit_operation (Delete i p) m below none = le-leb i 15 (omega arith)

pub taken_next : (m : Submission Op) (v : ServerState coded) (e : Entry Op) → (v.seats (site m.op)).connected ≡ true → site m.op < 16 → Took 65536 m v e
    → refusal (record_of.Entry e) (counts_of (contents_of v)) ≡ None
taken_next m v e connected below t =
    let one = become m v in
    let made : Entry Op = record { place = length v.history; op = one } in
    let fit = fit_operation one (length v.text) (omega (arith, site_become m v)) t.fits in
    let can : EntryCan made (counts_of (contents_of v)) = record { fit = fit; in_text = t.fits; in_order = refl; room = leb-false 4294967294 (length v.history) t.room } in
    ap (λ f. refusal (record_of.Entry f) (counts_of (contents_of v))) t.is ∙ entry_can-none made (counts_of (contents_of v)) can

-- and makes there what it makes of the server
pub taken_contents : (m : Submission Op) (v : ServerState coded) (e : Entry Op) → Took 65536 m v e → contents_of (take_after 65536 m v) ≡ with_record (record_of.Entry e) (contents_of v)
taken_contents m v e t = ap contents_of t.after ∙ ap (λ f. with_record (record_of.Entry f) (contents_of v)) (sym t.is)

-- THE JOURNAL goes on

pub lasts_more : (j : JournalState) (c : Contents) (r : Record) → refusal r (counts_of c) ≡ None → Lasts j c → Lasts (committed (appended r c j)) (with_record r c)
lasts_more j c r none k = record { records = k.records ++ r ∷ []; lived = on (on k.lived (appends r c k.opened none)) (commits refl); opened = refl }

-- it is opened
pub lasts_opened : (a : Life) (now : JournalState) (c : Contents) → Runs born a → Opens a.journal now c → Lasts now c
lasts_opened a now c runs o =
    let s = durable.survives a now c runs o in
    record { records = s.there; lived = on runs (opens now c s.there o s.bytes s.makes); opened = ap (λ (j : JournalState). j.contents) o.opened }

-- for the first time
pub nothing_opened : (now : JournalState) (c : Contents) → Opens born.journal now c → c ≡ nothing_yet
unfolding with_records
nothing_opened now c o =
    let s = durable.survives born now c here o in
    same_Some c nothing_yet (sym s.makes ∙ ap (λ rs. with_records rs nothing_yet) (first_of_nothing s.written))

module _ (j : JournalState) (c : Contents) (k : Lasts j c) where
  abbrev after_crash : Life
  after_crash = record { journal = crashed 0 j; written = k.records; committed = k.records }

  crash_lived : Runs born after_crash
  crash_lived = on k.lived (crashes 0)

  pub never_damaged : (now : JournalState) (n : ℕ) (why : Refusal) → NotOpens (Damaged n why) (crashed 0 j) now → ⊥
  never_damaged now n why f = durable.never_damaged after_crash now n why crash_lived f

  pub opens_again : (now : JournalState) (d : Contents) → Opens (crashed 0 j) now d → (d ≡ c) × Lasts now d
  opens_again now d o = ((durable.again (committed_life j k.records) c k.lived k.opened refl now d (inr (0, o))).0, lasts_opened after_crash now d crash_lived o)

-- WHAT RECORDS MAKE is what the history makes

replayed-next : (r : Record) (c d : Contents) → next r c ≡ Some d → replayed 65536 c.history [] ≡ all_done c.text → replayed 65536 d.history [] ≡ all_done d.text
replayed-next (record_of.Entry e) c d is before =
    let t = next-some (record_of.Entry e) c d is in
    let fits = (entry_can e (counts_of c) t.0).in_text in
    subst (λ (x : Contents). replayed 65536 x.history [] ≡ all_done x.text) t.1 (replayed-more 65536 c.history e.op [] c.text before fits)
replayed-next (record_of.Connection n) c d is before =
    let t = next-some (record_of.Connection n) c d is in
    subst (λ (x : Contents). replayed 65536 x.history [] ≡ all_done x.text) t.1 before

records_replayed : (rs : List Record) (c d : Contents) → with_records rs c ≡ Some d → replayed 65536 c.history [] ≡ all_done c.text → replayed 65536 d.history [] ≡ all_done d.text
unfolding with_records
records_replayed [] c d is before = subst (λ (x : Contents). replayed 65536 x.history [] ≡ all_done x.text) (same_Some c d is) before
records_replayed (r ∷ rs) c d is before =
    let t = with_first r rs c d is in
    records_replayed rs t.value d t.rest (replayed-next r c t.value t.first before)

pub lasts_replayed : (j : JournalState) (c : Contents) → Lasts j c → replayed 65536 c.history [] ≡ all_done c.text
unfolding replayed
lasts_replayed j c k = records_replayed k.records nothing_yet c (durable.holds (committed_life j k.records) c k.lived k.opened).1 refl

-- A CALL THAT FAILS

store_wants : (can : Error → Type 0) (e : JournalError) → ((x : Error) → can x → error_kind x ≡ OutOfMemory) → IsStoreError can e → WantsMemory e
store_wants can (Store x) kind failed = kind x failed
store_wants can NotOpen kind failed = tt
store_wants can (Refused why) kind failed = failed

-- what is put in can come next
pub wants_memory : (can : Error → Type 0) (o : Option Contents) (e : JournalError) → ((x : Error) → can x → error_kind x ≡ OutOfMemory)
    → (o ≡ None → e ≡ NotOpen) → ((c : Contents) → o ≡ Some c → IsStoreError can e) → WantsMemory e
wants_memory can None e kind closed failed = subst WantsMemory (sym (closed refl)) tt
wants_memory can (Some c) e kind closed failed = store_wants can e kind (failed c refl)

-- and the journal is not open then
pub none_either : (o : Option Contents) (n : Option Contents) → (o ≡ None → n ≡ o) → ((c : Contents) → o ≡ Some c → n ≡ None) → n ≡ None
none_either None n closed failed = closed refl
none_either (Some c) n closed failed = failed c refl

-- A JOURNAL THAT IS OPEN keeps what its server has

not_closed : (o : Option Contents) → is_some o ≡ true → o ≡ None → ⊥
not_closed o some none = false≢true (ap is_some (sym none) ∙ some)

contents_set : IsSet Contents
contents_set = hlevel props

text_set : IsSet (List Letter)
text_set = hlevel props

module _ (j : JournalState) (v : ServerState coded) (f : Follows j v) (is_open : is_some j.contents ≡ true) where
  kept_then : {P : Type 0} → IsProp P → (Lasts j (contents_of v) → P) → P
  kept_then prop g = ∥∥₁_elim f prop (⊎_elim (λ none. absurd (not_closed j.contents is_open none)) g)

  -- after a crash it is not damaged
  pub crash_opens : (was now : JournalState) (n : ℕ) (why : Refusal) → was ≡ crashed 0 j → NotOpens (Damaged n why) was now → ⊥
  crash_opens was now n why is fails = kept_then (λ x y. absurd x) (λ k. never_damaged j (contents_of v) k now n why (rw is at fails))

  -- and has again what the server had
  module _ (was now : JournalState) (is : was ≡ crashed 0 j) where
    module _ (c : Contents) (o : Opens was now c) where
      same_contents : c ≡ contents_of v
      same_contents = kept_then (contents_set c (contents_of v)) (λ k. (opens_again j (contents_of v) k now c (rw is at o)).0)

      lasts_again : ∥ Lasts now (contents_of v) ∥₁
      lasts_again = kept_then ∥∥₁_prop (λ k. let t = opens_again j (contents_of v) k now c (rw is at o) in ∣ subst (Lasts now) t.0 t.1 ∣₁)

      same_text : (replayed 65536 v.history []).text ≡ v.text
      same_text = kept_then (text_set _ _) (λ k. ap (λ (r : Replayed). r.text) (lasts_replayed j (contents_of v) k))

      -- so a server that is made of it is the one that the definition gives
      pub resumed_again : resumed c.text c.history ≡ restarted 65536 v
      resumed_again = λ t. record { text = (ap (λ (d : Contents). d.text) same_contents ∙ sym same_text) t; history = (same_contents t).history; seats = λ i. free }

      pub follows_resumed : (u : ServerState coded) → u ≡ resumed c.text c.history → Follows now u
      follows_resumed u made =
          let same : contents_of u ≡ contents_of v = ap contents_of (made ∙ resumed_again) ∙ ap (λ t. record { text = t; history = v.history; connection = 0 }) same_text in
          subst (λ (d : Contents). ∥ (now.contents ≡ None) ⊎ Lasts now d ∥₁) (sym same) (∥∥₁_map lasts_again inr)

    -- though no server could be made of it
    pub follows_again : ((c : Contents) → now.contents ≡ Some c → Opens was now c) → Follows now v
    follows_again opened = either now.contents refl where
      either : (o : Option Contents) → now.contents ≡ o → Follows now v
      either None none = ∣ inl none ∣₁
      either (Some c) some = ∥∥₁_map (lasts_again c (opened c some)) inr

-- THE SERVER TAKES AN OPERATION, and then the journal has it

pub entry_taken : (was now : Server) (m : Submission Op) (e : Entry Op) → room_of was ≡ 65536 → Taking m was (Ok e) now
    → Took 65536 m (state_of was) e × (state_of now ≡ take_after 65536 m (state_of was)) × (room_of now ≡ 65536)
entry_taken was now m e space (done is leaves) = (
  took 65536 m (state_of was) e (ap (λ n. take_answer n m (state_of was)) (sym space) ∙ sym is),
  leaves.state ∙ ap (λ n. take_after n m (state_of was)) space,
  leaves.room ∙ space,
)
entry_taken was now m e space (no_memory is leaves) = absurd cc

refusal_set : IsSet (Option Refusal)
refusal_set = hlevel props

module _ (was : Server) (j : JournalState) (f : Follows j (state_of was)) (m : Submission Op) (e : Entry Op) (t : Took 65536 m (state_of was) e) where
  -- it can come next
  pub entry_fits : (c : Contents) → j.contents ≡ Some c → refusal (record_of.Entry e) (counts_of c) ≡ None
  entry_fits c some = ∥∥₁_elim f (refusal_set _ _)
      (⊎_elim (λ none. absurd (none-some c (sym none ∙ some))) (λ k.
      let same : c ≡ contents_of (state_of was) = same_Some c _ (sym some ∙ k.opened) in
      rw same (taken_next m (state_of was) e t.connected (connected_below was (site m.op) t.connected) t)))

  -- put in, it is kept
  pub follows_entry : {E : Type 0} (r : Result (Unit {0}) E) (new : JournalState) (v : ServerState coded) → v ≡ take_after 65536 m (state_of was)
      → OnOk r ((c : Contents) × (j.contents ≡ Some c) × (new ≡ committed (appended (record_of.Entry e) c j))) → OnErr r (new.contents ≡ None) → Follows new v
  follows_entry (Err x) new v after kept failed = ∣ inl failed ∣₁
  follows_entry (Ok x) new v after (c, some, is) failed = ∥∥₁_elim f ∥∥₁_prop
      (⊎_elim (λ none. absurd (none-some c (sym none ∙ some))) (λ k.
      let same : c ≡ contents_of (state_of was) = same_Some c _ (sym some ∙ k.opened) in
      let made : with_record (record_of.Entry e) c ≡ contents_of v = ap (with_record (record_of.Entry e)) same ∙ sym (taken_contents m (state_of was) e t) ∙ ap contents_of (sym after) in
      let more = lasts_more j c (record_of.Entry e) (entry_fits c some) (subst (Lasts j) (sym same) k) in
      ∣ inr (subst (Lasts new) made (subst (λ (k : JournalState). Lasts k (with_record (record_of.Entry e) c)) (sym is) more)) ∣₁))

-- A ROOM BEGINS with an empty store

module _ (was now : JournalState) (is : was ≡ born.journal) (c : Contents) (o : Opens was now c) (v : ServerState coded) (made : v ≡ resumed c.text c.history) where
  empty : c ≡ nothing_yet
  empty = nothing_opened now c (rw is at o)

  pub started_empty : v ≡ started []
  started_empty = made ∙ ap (λ (d : Contents). resumed d.text d.history) empty

  pub follows_started : Follows now v
  follows_started = ∣ inr (subst (Lasts now) (empty ∙ ap contents_of (sym started_empty)) (lasts_opened born now c here (rw is at o))) ∣₁
