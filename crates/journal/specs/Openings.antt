-- OPENING A JOURNAL
use Rattle.std.specs.Prelude.{◌≡◌, ℕ, ◌<◌, ◌≤◌, ⊤, List, length, take, drop, true, Some, None, Option, IfSome, unwrap_or, min, ◌⊎◌}
use Rattle.std.specs.IoError.{error_kind}
use Rattle.std.specs.declared.io.Error.{Error}
use Rattle.std.specs.declared.io.ErrorKind.TheVariants.{FileTooLarge}
use Rattle.journal.specs.declared.refusal.Refusal.{Refusal}
use Rattle.journal.specs.declared.recovered.Recovered.{Recovered}
use Rattle.journal.specs.declared.error.OpenError.{OpenError}
use Rattle.journal.specs.declared.error.OpenError.TheVariants.{Damaged, Store, OutOfMemory}
use Rattle.journal.specs.Records.{AreBytes}
use Rattle.journal.specs.Contents.{Contents, counts_of}
use Rattle.journal.specs.Replaying.{held, is_short, tail_refusal, front_refusal}
use Rattle.journal.specs.Stores.{now_all}
use Rattle.journal.specs.Journals.{JournalState}

abbrev pub contents_in : Recovered → Contents
contents_in r = record { text = r.text.letters; history = r.history.items; connection = r.connection }

-- memory was wanting, or what stands at this byte is refused for this reason
abbrev pub Blames : OpenError → ℕ → Option Refusal → Type 0
Blames (Damaged at why) n reason = (at ≡ n) × (reason ≡ Some why)
Blames (Store e) n reason = ⊥
Blames OutOfMemory n reason = ⊤

-- WHILE IT IS READ: these bytes have been read, so many of them make c, and the others, which are no record yet, stand at the front of the buffer
pub record Reads (bytes buffer : List ℕ) (at left : ℕ) (c : Contents) : Type 0 where
  pub are_bytes : AreBytes bytes
  pub within : at ≤ length bytes
  pub held : held (take at bytes) ≡ Some c
  pub ahead : drop at bytes ≡ take left buffer
  pub few : left < 15
  pub fits : left ≤ length buffer
  pub short : is_short (drop at bytes) ≡ true

-- all that there is, or where that is not known what has been read of it
abbrev pub known : Option (List ℕ) → List ℕ → List ℕ
known all read = unwrap_or all read

-- a journal of these bytes is damaged where it is said, for the reason that is said
abbrev pub IsStuck : List ℕ → OpenError → Type 0
IsStuck bytes (Damaged n why) = (c : Contents) × (n ≤ length bytes) × (held (take n bytes) ≡ Some c) × (front_refusal (counts_of c) (drop n bytes) ≡ Some why)
IsStuck bytes (Store e) = ⊤
IsStuck bytes OutOfMemory = ⊤

-- WHAT OPENS: whole records from the start, of so many bytes, and then at most a first part of one more
pub record Whole (read : List ℕ) (whole : ℕ) (c : Contents) : Type 0 where
  pub within : whole ≤ length read
  pub holds : held (take whole read) ≡ Some c
  pub short : is_short (drop whole read) ≡ true
  pub tail : tail_refusal (counts_of c) (drop whole read) ≡ None

-- the journal is open with what its records make, the part is cut off, and all is synced
pub record Opens (was now : JournalState) (c : Contents) : Type 0 where
  pub read : List ℕ
  pub are_bytes : AreBytes read
  pub all_read : IfSome was.all (λ xs. read ≡ xs)
  pub whole : ℕ
  pub can : Whole read whole c
  pub opened : now ≡ record { bytes = take whole read; all = now_all (take whole read) was.all; synced = length (take whole read); contents = Some c }

-- where it is not for the bytes: a call of the store has failed so, or it has more of them than can be counted
abbrev pub CanFailSo : (Error → Type 0) → OpenError → Type 0
CanFailSo can (Damaged n why) = ⊤
CanFailSo can (Store e) = can e ⊎ (error_kind e ≡ FileTooLarge)
CanFailSo can OutOfMemory = ⊤

-- WHAT DOES NOT: the store is as it was
pub record AsItWas (was now : JournalState) : Type 0 where
  pub all : now.all ≡ was.all
  pub synced : now.synced ≡ was.synced

-- or the part has been cut off, though all could not be synced then
pub record CutBack (was now : JournalState) (c : Contents) : Type 0 where
  pub read : List ℕ
  pub all_read : IfSome was.all (λ xs. read ≡ xs)
  pub whole : ℕ
  pub can : Whole read whole c
  pub bytes : now.bytes ≡ take whole read
  pub all : now.all ≡ now_all (take whole read) was.all
  pub synced : now.synced ≡ min whole was.synced

abbrev pub FailsBy : OpenError → JournalState → JournalState → Type 0
FailsBy (Damaged n why) was now = IsStuck (known now.all now.bytes) (Damaged n why) × AsItWas was now
FailsBy (Store e) was now = AsItWas was now ⊎ ((c : Contents) × CutBack was now c)
FailsBy OutOfMemory was now = AsItWas was now

pub record NotOpens (e : OpenError) (was now : JournalState) : Type 0 where
  pub closed : now.contents ≡ None
  pub fails : FailsBy e was now
