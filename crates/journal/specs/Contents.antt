-- What a journal holds, and which record can come next.
use Rattle.std.specs.Prelude.{ℕ, ◌+◌, ◌-◌, Bool, List, [], ◌∷◌, ◌++◌, length, Some, None, Ok, Err, Option, Result, if◌then◌else◌, ◌==◌, nat_le, nat_lt}
use Rattle.operation.specs.declared.operation.Operation.{Operation}
use Rattle.operation.specs.declared.operation.Operation.TheVariants.{Noop, Insert, Delete}
use Rattle.operation.specs.declared.entry.Entry.{Entry as HistoryEntry}
use Rattle.operation.specs.Edits.{apply}
use Rattle.text.specs.declared.refusal.Refusal.{Refusal as TextRefusal}
use Rattle.text.specs.declared.refusal.Refusal.TheVariants as text
use Rattle.text.specs.Texts.{Letter, signed, refusal_at}
use Rattle.link.specs.Messages.{is_fit_operation}
use Rattle.link.specs.Reading.{◌>>=◌}
use Rattle.journal.specs.declared.record.Record.{Record}
use Rattle.journal.specs.declared.record.Record.TheVariants.{Entry, Connection}
use Rattle.journal.specs.declared.refusal.Refusal.{Refusal}
use Rattle.journal.specs.declared.refusal.Refusal.TheVariants.{Malformed, NotAbove, BeyondText, NotNext, Full}
use Rattle.journal.specs.declared.counts.Counts.{Counts}

-- the text and the history that its entries make, and the highest connection, 0 for none
pub record Contents : Type 0 where
  pub text : List Letter
  pub history : List (Operation ℕ)
  pub connection : ℕ

abbrev pub nothing_yet : Contents
nothing_yet = record { text = []; history = []; connection = 0 }

-- what has to be known of them to tell what can come next
abbrev pub counts_of : Contents → Counts
counts_of c = record { entries = length c.history; letters = length c.text; connection = c.connection }

-- WHY A RECORD CANNOT COME NEXT, the lowest number first
-- by the text's reason, whether the place is the next, and whether the history is full
abbrev pub lowest : Option TextRefusal → Bool → Bool → Option Refusal
lowest (Some text.BadLetter) next full = Some Malformed
lowest (Some text.BeyondText) next full = Some BeyondText
lowest (Some text.TextFull) next full = if next then Some Full else Some NotNext
lowest None next full = if next then (if full then Some Full else None) else Some NotNext

-- an entry that can be said. A history has up to 4,294,967,294 entries, and a text 65,536 letters
abbrev pub entry_refusal : HistoryEntry (Operation ℕ) → Counts → Option Refusal
entry_refusal e n = lowest (refusal_at 65536 n.letters e.op) (e.place == n.entries) (nat_le 4294967294 n.entries)

-- connections ascend, and the highest is 4,294,967,294
abbrev pub connection_refusal : ℕ → Counts → Option Refusal
connection_refusal c n = if nat_lt n.connection c then (if nat_le 4294967295 c then Some Full else None) else Some NotAbove

abbrev pub refusal : Record → Counts → Option Refusal
refusal (Entry e) n = if is_fit_operation e.op then entry_refusal e n else Some Malformed
refusal (Connection c) n = connection_refusal c n

abbrev pub why_not : {A : Type 0} → Result A Refusal → Option Refusal
why_not (Ok x) = None
why_not (Err why) = Some why

-- AFTER A RECORD
abbrev pub with_record : Record → Contents → Contents
with_record (Entry e) c = record { text = apply (signed e.op) c.text; history = c.history ++ e.op ∷ []; connection = c.connection }
with_record (Connection n) c = record { text = c.text; history = c.history; connection = n }

-- how many letters a text of n letters has after an operation that fits
abbrev pub letters_after : Operation ℕ → ℕ → ℕ
letters_after (Noop i) n = n
letters_after (Insert i p x) n = n + 1
letters_after (Delete i p) n = n - 1

abbrev pub counts_after : Record → Counts → Counts
counts_after (Entry e) n = record { entries = n.entries + 1; letters = letters_after e.op n.letters; connection = n.connection }
counts_after (Connection c) n = record { entries = n.entries; letters = n.letters; connection = c }

abbrev pub unless_refused : Option Refusal → Contents → Option Contents
unless_refused None c = Some c
unless_refused (Some why) c = None

-- the contents with one record more, if it can come next
abbrev pub next : Record → Contents → Option Contents
next r c = unless_refused (refusal r (counts_of c)) (with_record r c)

unfoldable pub with_records : List Record → Contents → Option Contents
with_records [] c = Some c
with_records (r ∷ rs) c = do
  d ← next r c
  with_records rs d
