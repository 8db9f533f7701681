-- An entry of the history as bytes, without a packet around it: the journal has it so.
use Rattle.std.specs.Prelude.{ℕ, List, Some, None, Option, if◌then◌else◌, ◌==◌}
use Rattle.operation.specs.declared.operation.Operation.{Operation}
use Rattle.operation.specs.declared.entry.Entry.{Entry}
use Rattle.link.specs.Messages.{entry}
use Rattle.link.specs.Spelling.{spelled}
use Rattle.link.specs.Reading.{◌>>=◌, byte_at, word_at, site_at, code_at, operation_from}

-- the bytes of the message, which are the same in each connection
abbrev pub entry_bytes : Entry (Operation ℕ) → List ℕ
entry_bytes e = spelled 0 (entry e)

-- its first byte is 2
abbrev pub behind_two : ℕ × List ℕ → Option (List ℕ)
behind_two kind = if kind.0 == 2 then Some kind.1 else None

unfoldable pub entry_in : List ℕ → Option (Entry (Operation ℕ))
entry_in bytes = do
  kind ← byte_at bytes
  rest ← behind_two kind
  p ← word_at rest
  i ← site_at p.1
  f ← code_at i.1
  o ← operation_from i.0 f
  Some (record { place = p.0; op = o })
