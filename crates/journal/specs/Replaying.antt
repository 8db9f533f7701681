-- READING A JOURNAL: the records from the start, each only where it can come next.
use Rattle.std.specs.Prelude.{ℕ, zero, suc, Bool, true, false, List, [], ◌∷◌, ◌++◌, length, take, drop, get_or, Some, None, Ok, Err, Option, Result, if◌then◌else◌, ◌==◌, nat_lt}
use Rattle.std.specs.List.{list_all}
use Rattle.link.specs.Spelling.{word}
use Rattle.link.specs.Reading.{◌>>=◌}
use Rattle.journal.specs.declared.record.Record.{Record}
use Rattle.journal.specs.declared.refusal.Refusal.{Refusal}
use Rattle.journal.specs.declared.refusal.Refusal.TheVariants.{Malformed}
use Rattle.journal.specs.declared.counts.Counts.{Counts}
use Rattle.journal.specs.Records.{spelled, width, record_in}
use Rattle.journal.specs.Contents.{Contents, nothing_yet, refusal, next}

-- a whole record at the front of some bytes
unfoldable pub front : List ℕ → Option Record
front [] = None
front (b ∷ bs) = do
  w ← width b
  record_in (take w (b ∷ bs))

-- what bytes make of the contents before them, where they are records, one after another, and nothing else
unfoldable pub replayed : ℕ → List ℕ → Contents → Option Contents
replayed n [] c = Some c
replayed zero (b ∷ bs) c = None
replayed (suc n) (b ∷ bs) c = do
  r ← front (b ∷ bs)
  d ← next r c
  replayed n (drop (length (spelled r)) (b ∷ bs)) d

abbrev pub behind : List ℕ → Contents → Option Contents
behind bytes c = replayed (length bytes) bytes c

-- what a journal of these bytes holds, if it is one
abbrev pub held : List ℕ → Option Contents
held bytes = behind bytes nothing_yet

-- BYTES AT THE END that are no whole record: shorter than their first byte says
abbrev pub is_short : List ℕ → Bool
is_short [] = true
is_short (b ∷ bs) = is_below (width b) where
  is_below : Option ℕ → Bool
  is_below None = false
  is_below (Some w) = nat_lt (suc (length bs)) w

-- what a reader finds at the front: a record, nothing yet, or what is no record
abbrev pub whole_found : Option Record → Result (Option Record) Refusal
whole_found None = Err Malformed
whole_found (Some r) = Ok (Some r)

abbrev pub found : List ℕ → Result (Option Record) Refusal
found bytes = if is_short bytes then Ok None else whole_found (front bytes)

-- bytes with which a record may go on where so many have been written: the least that fits, or of a connection the highest
abbrev pub entry_end : Counts → List ℕ → List ℕ
entry_end n bytes = 2 ∷ (word n.entries ++ 0 ∷ 0 ∷ 0 ∷ 0 ∷ 0 ∷ 0 ∷ 0 ∷ 0 ∷ 0 ∷ (if get_or bytes 6 0 == 1 then 1 else 0) ∷ [])

abbrev pub connection_end : List ℕ → List ℕ
connection_end bytes = 6 ∷ 255 ∷ 255 ∷ 255 ∷ (if list_all (λ b. b == 255) (drop 1 bytes) then 254 else 255) ∷ []

abbrev pub record_end : Counts → List ℕ → List ℕ
record_end n bytes = if get_or bytes 0 0 == 6 then connection_end bytes else entry_end n bytes

-- the record that short bytes may have been the beginning of
abbrev pub completed : Counts → List ℕ → Option Record
completed n bytes = record_in (bytes ++ drop (length bytes) (record_end n bytes))

abbrev pub record_refusal : Option Record → Counts → Option Refusal
record_refusal None n = Some Malformed
record_refusal (Some r) n = refusal r n

-- why short bytes cannot stand at the end, if they cannot: a crash can leave a first part of a record that can come next, and nothing else
abbrev pub tail_refusal : Counts → List ℕ → Option Refusal
tail_refusal n [] = None
tail_refusal n (b ∷ bs) = record_refusal (completed n (b ∷ bs)) n

-- why a journal cannot go on with these bytes, whatever follows, if it cannot
abbrev pub front_refusal : Counts → List ℕ → Option Refusal
front_refusal n bytes = if is_short bytes then tail_refusal n bytes else record_refusal (front bytes) n
