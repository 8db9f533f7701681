-- The bytes of records: each has one spelling, and no spelling goes on behind another.
use Rattle.std.specs.Prelude.{◌≡◌, ℕ, ◌<◌, ◌^◌, List, [], ◌∷◌, ◌++◌, Some, None, true, Option, option_map, get_or, if◌then◌else◌, ◌==◌}
use Rattle.operation.specs.declared.operation.Operation.{Operation}
use Rattle.operation.specs.declared.entry.Entry.{Entry as HistoryEntry}
use Rattle.link.specs.Messages.{is_fit_operation, OperationInWords}
use Rattle.link.specs.Spelling.{word}
use Rattle.link.specs.Reading.{◌>>=◌, byte_at, word_at, ended}
use Rattle.link.specs.EntryBytes.{entry_bytes, entry_in}
use Rattle.journal.specs.declared.record.Record.{Record}
use Rattle.journal.specs.declared.record.Record.TheVariants.{Entry, Connection}

abbrev pub AreBytes : List ℕ → Type 0
AreBytes xs = (i : ℕ) → get_or xs i 0 < 256

-- an entry as on the line, and a connection's number behind a 6
abbrev pub spelled : Record → List ℕ
spelled (Entry e) = entry_bytes e
spelled (Connection c) = 6 ∷ word c

unfoldable pub all_spelled : List Record → List ℕ
all_spelled [] = []
all_spelled (r ∷ rs) = spelled r ++ all_spelled rs

-- how many bytes a record has that begins with this one, if one does
abbrev pub width : ℕ → Option ℕ
width b = if b == 2 then Some 15 else (if b == 6 then Some 5 else None)

-- the record that has just these bytes, if one has
abbrev pub connection_in : List ℕ → Option Record
connection_in rest = do
  c ← word_at rest
  ended (Connection c.0) c.1

abbrev pub record_of_kind : ℕ → List ℕ → List ℕ → Option Record
record_of_kind k bytes rest =
    if k == 2 then option_map Entry (entry_in bytes)
    else (if k == 6 then connection_in rest else None)

unfoldable pub record_in : List ℕ → Option Record
record_in bytes = do
  kind ← byte_at bytes
  record_of_kind kind.0 bytes kind.1

-- what a record can have: the sites and letters that there are, and numbers of 32 bits
abbrev pub CanBeWritten : Record → Type 0
CanBeWritten (Entry e) = (is_fit_operation e.op ≡ true) × OperationInWords e.op × (e.place < 2 ^ 32)
CanBeWritten (Connection c) = c < 2 ^ 32

-- what holds of the entry, if it is one
abbrev pub WhenEntry : (HistoryEntry (Operation ℕ) → Type 0) → Record → Type 0
WhenEntry P (Entry e) = P e
WhenEntry P (Connection c) = Unit {0}
