-- A store that has been read to its end is opened, or refused.
use Rattle.std.proofs.Common.{◌≡◌, ℕ, List, take, Option, Some, None, ap, ◌∙◌, inl, inr}
use Rattle.std.specs.Prelude.{IfSome, ◌⊎◌, min}
use Rattle.journal.specs.declared.refusal.Refusal.{Refusal}
use Rattle.journal.specs.declared.error.OpenError.TheVariants.{Damaged, Store}
use Rattle.journal.specs.Stores.{now_all}
use Rattle.journal.specs.Contents.{Contents, counts_of}
use Rattle.journal.specs.Replaying.{tail_refusal}
use Rattle.journal.specs.Journals.{JournalState, closed_around}
use Rattle.journal.specs.Openings.{known, Reads, IsStuck, Whole, AsItWas, FailsBy}

-- what has been read, where the store is still as it was
module _ (before bytes : List ℕ) (all0 all : Option (List ℕ)) (synced0 synced : ℕ) (same : all ≡ all0) (kept : synced ≡ synced0) where
  abbrev was : JournalState
  was = closed_around before all0 synced0

  abbrev now : JournalState
  now = closed_around bytes all synced

  pub stays : AsItWas was now
  stays = record { all = same; synced = kept }

module _ (bytes buffer : List ℕ) (at left : ℕ) (c : Contents) (r : Reads bytes buffer at left c) where
  -- the end is no first part of a record
  tail_there : (why : Refusal) → tail_refusal (counts_of c) (take left buffer) ≡ Some why → IsStuck bytes (Damaged at why)
  tail_there why refused = (c, r.within, r.held, rw (r.short, r.ahead) refused)

  pub tail_stuck : (all : Option (List ℕ)) (why : Refusal) → IfSome all (λ xs. bytes ≡ xs) → tail_refusal (counts_of c) (take left buffer) ≡ Some why → IsStuck (known all bytes) (Damaged at why)
  tail_stuck None why law refused = tail_there why refused
  tail_stuck (Some xs) why law refused = rw law at (tail_there why refused)

  pub whole : tail_refusal (counts_of c) (take left buffer) ≡ None → Whole bytes at c
  whole fits = record { within = r.within; holds = r.held; short = r.short; tail = rw r.ahead fits }

-- it could not be synced, after it had been cut back or before
pub unsynced_fails : (e : _) (before bytes now : List ℕ) (all0 all all1 : Option (List ℕ)) (synced0 synced synced1 at : ℕ) (c : Contents)
    → all ≡ all0 → synced ≡ synced0 → IfSome all (λ xs. bytes ≡ xs) → Whole bytes at c → all1 ≡ now_all now all
    → ((now ≡ bytes) × (synced1 ≡ synced)) ⊎ ((now ≡ take at bytes) × (synced1 ≡ min at synced))
    → FailsBy (Store e) (closed_around before all0 synced0) (closed_around now all1 synced1)
unsynced_fails e before bytes now all0 None all1 synced0 synced synced1 at c same kept law w is (inl t) = inl (record { all = is ∙ same; synced = t.1 ∙ kept })
unsynced_fails e before bytes now all0 (Some xs) all1 synced0 synced synced1 at c same kept law w is (inl t) = inl (record { all = is ∙ ap Some (t.0 ∙ law) ∙ same; synced = t.1 ∙ kept })
unsynced_fails e before bytes now all0 all all1 synced0 synced synced1 at c same kept law w is (inr t) =
    inr (c, record { read = bytes; all_read = rw (← same) law; whole = at; can = w; bytes = t.0; all = rw (← t.0, ← same) is; synced = rw (← kept) t.1 })
