-- WHAT LASTS through any crash
use Rattle.std.specs.Prelude.{◌≡◌, ℕ, List, [], ◌∷◌, ◌++◌, take, Some, None, IsSome, ◌⊎◌}
use Rattle.journal.specs.declared.record.Record.{Record}
use Rattle.journal.specs.declared.refusal.Refusal.{Refusal}
use Rattle.journal.specs.declared.error.OpenError.{OpenError}
use Rattle.journal.specs.declared.error.OpenError.TheVariants.{Damaged}
use Rattle.journal.specs.Records.{all_spelled}
use Rattle.journal.specs.Contents.{Contents, nothing_yet, counts_of, refusal, with_records}
use Rattle.journal.specs.Journals.{JournalState, closed_around, appended, torn, committed as committed_state, stopped, crashed}
use Rattle.journal.specs.Openings.{Opens, NotOpens}

-- a journal in a store that is known, the records that were put in, in order, and those of them that were committed
pub record Life : Type 0 where
  pub journal : JournalState
  pub written : List Record
  pub committed : List Record

-- an empty store, which has not been opened yet
abbrev pub born : Life
born = record { journal = closed_around [] (Some []) 0; written = []; committed = [] }

-- ONE CALL, done or failed, or a crash. What is refused is no step. Once it is opened, what is there is what was written and committed
pub data Step (a : Life) : Life → Type 0 where
  appends : (r : Record) (c : Contents) → a.journal.contents ≡ Some c → refusal r (counts_of c) ≡ None →
      Step a (record { journal = appended r c a.journal; written = a.written ++ r ∷ []; committed = a.committed })
  tears : (n : ℕ) (r : Record) (c : Contents) → a.journal.contents ≡ Some c → refusal r (counts_of c) ≡ None →
      Step a (record { journal = torn n r a.journal; written = a.written ++ r ∷ []; committed = a.committed })
  commits : IsSome a.journal.contents → Step a (record { journal = committed_state a.journal; written = a.written; committed = a.written })
  stops : Step a (record { journal = stopped a.journal; written = a.written; committed = a.committed })
  crashes : (n : ℕ) → Step a (record { journal = crashed n a.journal; written = a.written; committed = a.committed })
  opens : (now : JournalState) (c : Contents) (rs : List Record) → Opens a.journal now c → now.bytes ≡ all_spelled rs → with_records rs nothing_yet ≡ Some c →
      Step a (record { journal = now; written = rs; committed = rs })
  fails : (now : JournalState) (e : OpenError) → NotOpens e a.journal now → Step a (record { journal = now; written = a.written; committed = a.committed })

-- any number of them
pub data Runs (a : Life) : Life → Type 0 where
  here : Runs a a
  on : {b c : Life} → Runs a b → Step b c → Runs a c

-- one list is a first part of the other
pub record FirstPart {A : Type 0} (xs ys : List A) : Type 0 where
  pub rest : List A
  pub whole : ys ≡ xs ++ rest

-- what opens: some first part of what was written, in order, each once, and all that was committed. Its bytes are those of no other records
pub record Survives (a : Life) (now : JournalState) (c : Contents) : Type 0 where
  pub there : List Record
  pub bytes : now.bytes ≡ all_spelled there
  pub makes : with_records there nothing_yet ≡ Some c
  pub only : (rs : List Record) → now.bytes ≡ all_spelled rs → with_records rs nothing_yet ≡ Some c → rs ≡ there
  pub written : FirstPart there a.written
  pub committed : FirstPart a.committed there

pub record Durable : Type 0 where
  -- nothing is ever found damaged
  pub never_damaged : (a : Life) (now : JournalState) (n : ℕ) (why : Refusal) → Runs born a → NotOpens (Damaged n why) a.journal now → ⊥
  -- it can always be opened
  pub can_open : (a : Life) → Runs born a → (now : JournalState) × (c : Contents) × Opens a.journal now c
  -- what opens then. So there is a step above that opens it, and it is one with these records
  pub survives : (a : Life) (now : JournalState) (c : Contents) → Runs born a → Opens a.journal now c → Survives a now c
  -- of an open journal the bytes are those of all that was written, and the contents what that makes
  pub holds : (a : Life) (c : Contents) → Runs born a → a.journal.contents ≡ Some c → (a.journal.bytes ≡ all_spelled a.written) × (with_records a.written nothing_yet ≡ Some c)
  -- what was once committed stays, whatever happens then
  pub lasts : (a b : Life) → Runs born a → Runs a b → FirstPart a.committed b.committed
  -- what is synced begins with the bytes of all that was committed, so a store is never cut back into these
  pub synced : (a : Life) → Runs born a → (xs : List ℕ) × (a.journal.all ≡ Some xs) × FirstPart (all_spelled a.committed) (take a.journal.synced xs)
  -- opened again, with a crash before or without, it is what it was
  pub again : (a : Life) (c : Contents) → Runs born a → a.journal.contents ≡ Some c → a.committed ≡ a.written → (now : JournalState) (e : Contents)
      → Opens a.journal now e ⊎ ((n : ℕ) × Opens (crashed n a.journal) now e) → (e ≡ c) × (now.bytes ≡ a.journal.bytes)
