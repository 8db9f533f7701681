-- A journal and its calls.
use Rattle.std.specs.Prelude.{◌≡◌, ℕ, Bool, IsTrue, List, [], ◌++◌, length, take, Some, None, Option, option_map}
use Rattle.std.specs.declared.io.Error.{Error}
use Rattle.journal.specs.declared.record.Record.{Record}
use Rattle.journal.specs.declared.counts.Counts.{Counts}
use Rattle.journal.specs.declared.error.JournalError.{JournalError}
use Rattle.journal.specs.declared.error.JournalError.TheVariants.{NotOpen, Refused, Store}
use Rattle.journal.specs.Records.{spelled}
use Rattle.journal.specs.Contents.{Contents, counts_of, with_record}
use Rattle.journal.specs.Replaying.{held}
use Rattle.journal.specs.Stores.{now_all, kept}

-- what has been read of its store and put in, all that the store holds, where that is known beforehand, how much of it a crash leaves,
-- and what its records make, if it is open
pub record JournalState : Type 0 where
  pub bytes : List ℕ
  pub all : Option (List ℕ)
  pub synced : ℕ
  pub contents : Option Contents

abbrev pub contents_if : Option Counts → List ℕ → Option Contents
contents_if None bytes = None
contents_if (Some n) bytes = held bytes

-- of an open journal all is read, and the counts are those of what its bytes hold
abbrev pub Tied : Option Counts → List ℕ → Bool → Type 0
Tied None bytes end = Unit {0}
Tied (Some n) bytes end = IsTrue end × (option_map counts_of (held bytes) ≡ Some n)

abbrev pub closed_around : List ℕ → Option (List ℕ) → ℕ → JournalState
closed_around bytes all synced = record { bytes = bytes; all = all; synced = synced; contents = None }

-- with one record more
abbrev pub appended : Record → Contents → JournalState → JournalState
appended r c j = record { bytes = j.bytes ++ spelled r; all = now_all (j.bytes ++ spelled r) j.all; synced = j.synced; contents = Some (with_record r c) }

-- all is synced
abbrev pub committed : JournalState → JournalState
committed j = record { bytes = j.bytes; all = j.all; synced = length j.bytes; contents = j.contents }

-- not open any more: as it was, but for n bytes of what was to be put behind
abbrev pub torn : ℕ → Record → JournalState → JournalState
torn n r j = record { bytes = j.bytes ++ take n (spelled r); all = now_all (j.bytes ++ take n (spelled r)) j.all; synced = j.synced; contents = None }

-- not open any more, and else as it was
abbrev pub stopped : JournalState → JournalState
stopped j = record { bytes = j.bytes; all = j.all; synced = j.synced; contents = None }

-- after a crash that leaves n bytes, or what is synced: it has to be opened again
abbrev pub crashed : ℕ → JournalState → JournalState
crashed n j = record { bytes = []; all = option_map (λ xs. take (kept n j.synced (length xs)) xs) j.all; synced = j.synced; contents = None }

-- a call of its store has failed so
abbrev pub IsStoreError : (Error → Type 0) → JournalError → Type 0
IsStoreError can NotOpen = ⊥
IsStoreError can (Refused why) = ⊥
IsStoreError can (Store e) = can e
