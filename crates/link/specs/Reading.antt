-- Reading from left to right: nothing, where the bytes are not what is read.
use Rattle.std.specs.Prelude.{ℕ, ◌-◌, ◌%◌, ◌&&◌, List, [], ◌∷◌, length, take, drop, Some, None, Option, if◌then◌else◌, nat_lt, nat_le, ◌==◌, sum}
use Rattle.std.specs.Int.{w16, w32, from_be_bytes}
use Rattle.operation.specs.declared.operation.Operation.{Operation}
use Rattle.operation.specs.declared.operation.Operation.TheVariants.{Noop, Insert, Delete}
use Rattle.text.specs.Texts.{Letter}
use Rattle.link.specs.declared.message.Edit.{Edit}
use Rattle.link.specs.declared.message.Edit.TheVariants as edit
use Rattle.link.specs.declared.datagram.Datagram.{Datagram}
use Rattle.link.specs.declared.datagram.Datagram.TheVariants as datagram
use Rattle.link.specs.declared.fields.OperationCode.{OperationCode}
use Rattle.link.specs.Letters.{is_number, letters_in}
use Rattle.link.specs.Messages.{Message, operation, revision, new, entry, text}

infixl 10 ◌>>=◌
abbrev pub ◌>>=◌ : {A B : Type 0} → Option A → (A → Option B) → Option B
None >>= f = None
(Some x) >>= f = f x

-- a field, and the bytes behind it
unfoldable pub byte_at : List ℕ → Option (ℕ × List ℕ)
byte_at [] = None
byte_at (b ∷ rest) = Some (b, rest)

unfoldable pub word_at : List ℕ → Option (ℕ × List ℕ)
word_at bytes = if nat_lt (length bytes) 4 then None else Some (from_be_bytes w32 (take 4 bytes), drop 4 bytes)

unfoldable pub site_at : List ℕ → Option (ℕ × List ℕ)
site_at bytes = do
  i ← byte_at bytes
  if nat_le i.0 15 then Some i else None

-- no bytes may be behind it
abbrev pub ended : {A : Type 0} → A → List ℕ → Option A
ended x rest = if length rest == 0 then Some x else None

unfoldable pub code_at : List ℕ → Option OperationCode
code_at bytes = do
  kind ← byte_at bytes
  place ← word_at kind.1
  letter ← word_at place.1
  ended (record { kind = kind.0; place = place.0; letter = letter.0 }) letter.1

abbrev pub edit_from : OperationCode → Option Edit
edit_from f =
    if (f.kind == 1) && is_number f.letter then Some (edit.Insert f.place f.letter)
    else (if (f.kind == 2) && (f.letter == 0) then Some (edit.Delete f.place) else None)

abbrev pub operation_from : ℕ → OperationCode → Option (Operation ℕ)
operation_from i f =
    if (f.kind == 1) && is_number f.letter then Some (Insert i f.place f.letter)
    else (if (f.kind == 2) && (f.letter == 0) then Some (Delete i f.place)
    else (if (f.kind == 0) && (f.place == 0 && f.letter == 0) then Some (Noop i) else None))

-- THE MESSAGES, in a packet of connection c
unfoldable pub operation_at : List ℕ → Option Message
operation_at bytes = do
  r ← word_at bytes
  f ← code_at r.1
  e ← edit_from f
  Some (operation r.0 e)

unfoldable pub revision_at : List ℕ → Option Message
revision_at bytes = do
  r ← word_at bytes
  ended (revision r.0) r.1

unfoldable pub new_at : ℕ → List ℕ → Option Message
new_at c bytes = if c == 0 then ended new bytes else None

unfoldable pub entry_at : List ℕ → Option Message
entry_at bytes = do
  p ← word_at bytes
  i ← site_at p.1
  f ← code_at i.1
  o ← operation_from i.0 f
  Some (entry (record { place = p.0; op = o }))

-- the letters of a text, if they are as many as it says
abbrev pub counted : ℕ → List Letter → Option (List Letter)
counted n ls = if length ls == n then Some ls else None

abbrev pub same_as : ℕ → ℕ × List ℕ → Option (List ℕ)
same_as c d = if d.0 == c then Some d.1 else None

unfoldable pub text_at : ℕ → List ℕ → Option Message
text_at c bytes = do
  d ← word_at bytes
  rest ← same_as c d
  i ← site_at rest
  m ← word_at i.1
  r ← word_at m.1
  n ← word_at r.1
  ls ← letters_in n.1
  all ← counted n.0 ls
  Some (text (record { site = i.0; performed = m.0; revision = r.0; letters = all }))

abbrev pub client_message : ℕ → ℕ → List ℕ → Option Message
client_message c kind rest =
    if kind == 1 then operation_at rest
    else (if kind == 3 then revision_at rest
    else (if kind == 4 then new_at c rest else None))

abbrev pub server_message : ℕ → ℕ → List ℕ → Option Message
server_message c kind rest =
    if kind == 2 then entry_at rest
    else (if kind == 5 then text_at c rest else None)

-- a message by its first byte
unfoldable pub message_at : (ℕ → List ℕ → Option Message) → List ℕ → Option Message
message_at by_kind bytes = do
  kind ← byte_at bytes
  by_kind kind.0 kind.1

-- PACKETS AND ACKNOWLEDGEMENTS
-- the bytes before the sum, if that is right
unfoldable pub unsealed : List ℕ → Option (List ℕ)
unsealed bytes =
    if nat_lt (length bytes) 2 then None
    else (if from_be_bytes w16 (drop (length bytes - 2) bytes) == sum (take (length bytes - 2) bytes) % 65536 then Some (take (length bytes - 2) bytes) else None)

abbrev pub by_first_byte : ℕ → ℕ → ℕ → List ℕ → Option (Datagram (List ℕ))
by_first_byte kind c n rest =
    if kind == 84 then Some (datagram.Packet (record { connection = c; number = n; message = rest }))
    else (if kind == 85 then ended (datagram.Acknowledgement (record { connection = c; last = n })) rest else None)

unfoldable pub opened : List ℕ → Option (Datagram (List ℕ))
opened bytes = do
  body ← unsealed bytes
  kind ← byte_at body
  c ← word_at kind.1
  n ← word_at c.1
  by_first_byte kind.0 c.0 n.0 n.1

abbrev pub with_read : (ℕ → List ℕ → Option Message) → Datagram (List ℕ) → Option (Datagram Message)
with_read read (datagram.Packet p) = do
  m ← read p.connection p.message
  Some (datagram.Packet (record { connection = p.connection; number = p.number; message = m }))
with_read read (datagram.Acknowledgement a) = Some (datagram.Acknowledgement a)

-- what comes from a client, and what comes from the server
unfoldable pub from_client_at : List ℕ → Option (Datagram Message)
from_client_at bytes = do
  d ← opened bytes
  with_read (λ c. message_at (client_message c)) d

unfoldable pub from_server_at : List ℕ → Option (Datagram Message)
from_server_at bytes = do
  d ← opened bytes
  with_read (λ c. message_at (server_message c)) d
