-- WHICH FILES OPEN: those that are a first part of a journal, which is what a crash can leave, and no others
use Rattle.std.specs.Prelude.{◌≡◌, ℕ, List, ◌++◌, take, Some, ◌⊎◌}
use Rattle.journal.specs.declared.record.Record.{Record}
use Rattle.journal.specs.declared.refusal.Refusal.{Refusal}
use Rattle.journal.specs.declared.error.OpenError.TheVariants.{Damaged}
use Rattle.journal.specs.Records.{AreBytes, all_spelled}
use Rattle.journal.specs.Contents.{Contents, nothing_yet, with_records}
use Rattle.journal.specs.Journals.{JournalState}
use Rattle.journal.specs.Openings.{IsStuck, Whole, Opens}
use Rattle.journal.specs.Durability.{Life, born, Runs, FirstPart}

-- a first part of a journal: of the bytes of records, each of which can come next
pub record CanBeLeft (bytes : List ℕ) : Type 0 where
  pub written : List Record
  pub made : Contents
  pub makes : with_records written nothing_yet ≡ Some made
  pub first : FirstPart bytes (all_spelled written)

-- bytes open with the first of these records, as many as are there whole
pub record OpensWith (bytes : List ℕ) (written : List Record) : Type 0 where
  pub whole : ℕ
  pub contents : Contents
  pub can : Whole bytes whole contents
  pub there : List Record
  pub is : take whole bytes ≡ all_spelled there
  pub makes : with_records there nothing_yet ≡ Some contents
  pub first : FirstPart there written

pub record Exact : Type 0 where
  -- a crash can leave every first part of a journal, and whatever happens leaves one
  pub can_leave : (bytes : List ℕ) → CanBeLeft bytes → (a : Life) × Runs born a × (a.journal.all ≡ Some bytes)
  pub leaves : (a : Life) → Runs born a → (bytes : List ℕ) × (a.journal.all ≡ Some bytes) × CanBeLeft bytes
  -- what opens is a first part of a journal
  pub opens_only : (bytes : List ℕ) (n : ℕ) (c : Contents) → AreBytes bytes → Whole bytes n c → CanBeLeft bytes
  -- so what has been opened has the bytes of records, and what they make
  pub opened : (was now : JournalState) (c : Contents) → Opens was now c → (rs : List Record) × (now.bytes ≡ all_spelled rs) × (with_records rs nothing_yet ≡ Some c)
  -- every first part of a journal opens
  pub opens_all : (rs : List Record) (d : Contents) (bytes : List ℕ) → with_records rs nothing_yet ≡ Some d → FirstPart bytes (all_spelled rs) → OpensWith bytes rs
  -- what opens has one length and makes one thing
  pub one_answer : (bytes : List ℕ) (n m : ℕ) (c e : Contents) → Whole bytes n c → Whole bytes m e → (n ≡ m) × (c ≡ e)
  -- what is damaged is no first part of a journal, whatever is behind it
  pub damage : (bytes more : List ℕ) (n : ℕ) (why : Refusal) → IsStuck bytes (Damaged n why) → CanBeLeft (bytes ++ more) → ⊥
  -- damage has one place and one reason
  pub one_damage : (bytes : List ℕ) (n m : ℕ) (why who : Refusal) → IsStuck bytes (Damaged n why) → IsStuck bytes (Damaged m who) → (n ≡ m) × (why ≡ who)
  -- and the same place however much of a file has been read
  pub one_place : (bytes more : List ℕ) (n m : ℕ) (why who : Refusal) → AreBytes (bytes ++ more) → IsStuck bytes (Damaged n why) → IsStuck (bytes ++ more) (Damaged m who) → n ≡ m
  -- nothing opens that is damaged
  pub never_both : (bytes : List ℕ) (n m : ℕ) (c : Contents) (why : Refusal) → Whole bytes n c → IsStuck bytes (Damaged m why) → ⊥
  -- and everything else does
  pub either : (bytes : List ℕ) → ((n : ℕ) × (c : Contents) × Whole bytes n c) ⊎ ((n : ℕ) × (why : Refusal) × IsStuck bytes (Damaged n why))
