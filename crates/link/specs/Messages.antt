-- What the two ends of a line say to each other, and what of it can be said.
use Rattle.std.specs.Prelude.{◌≡◌, ℕ, ◌<◌, ◌^◌, Bool, true, false, ◌&&◌, List, length, Some, None, Option, nat_le, ◌==◌}
use Rattle.operation.specs.declared.operation.Operation.{Operation}
use Rattle.operation.specs.declared.operation.Operation.TheVariants.{Noop, Insert, Delete}
use Rattle.operation.specs.declared.entry.Entry.{Entry}
use Rattle.text.specs.Texts.{Letter}
use Rattle.link.specs.declared.message.Edit.{Edit}
use Rattle.link.specs.declared.message.Edit.TheVariants as edit
use Rattle.link.specs.declared.message.FromClient.{FromClient}
use Rattle.link.specs.declared.message.FromClient.TheVariants as client
use Rattle.link.specs.declared.datagram.Datagram.{Datagram}
use Rattle.link.specs.declared.datagram.Datagram.TheVariants as datagram
use Rattle.link.specs.Letters.{is_number, are_fit}

-- an operation as its client sends it, and what the server makes of that
abbrev pub edit_of : Operation ℕ → Option Edit
edit_of (Noop i) = None
edit_of (Insert i p x) = Some (edit.Insert p x)
edit_of (Delete i p) = Some (edit.Delete p)

abbrev pub signed_by : ℕ → Edit → Operation ℕ
signed_by i (edit.Insert p x) = Insert i p x
signed_by i (edit.Delete p) = Delete i p

-- a text as a client gets it: the client's site, how many of that site's operations the history has, and the text's revision
pub record Sheet : Type 0 where
  pub site : ℕ
  pub performed : ℕ
  pub revision : ℕ
  pub letters : List Letter

-- all that is said
pub data Message : Type 0 where
  operation : (revision : ℕ) → Edit → Message
  revision : ℕ → Message
  new : Message
  entry : Entry (Operation ℕ) → Message
  text : Sheet → Message

abbrev pub from_client : FromClient → Message
from_client (client.Operation r e) = operation r e
from_client (client.Revision r) = revision r
from_client client.New = new

-- which of the two ends says it
abbrev pub is_from_client : Message → Bool
is_from_client (operation r e) = true
is_from_client (revision r) = true
is_from_client new = true
is_from_client (entry e) = false
is_from_client (text s) = false

-- WHAT CAN BE SAID: letters that there are, sites from 0 to 15, at most 65,536 letters
abbrev pub is_fit_edit : Edit → Bool
is_fit_edit (edit.Insert p x) = is_number x
is_fit_edit (edit.Delete p) = true

abbrev pub is_fit_operation : Operation ℕ → Bool
is_fit_operation (Noop i) = nat_le i 15
is_fit_operation (Insert i p x) = nat_le i 15 && is_number x
is_fit_operation (Delete i p) = nat_le i 15

abbrev pub is_fit_sheet : Sheet → Bool
is_fit_sheet s = nat_le s.site 15 && (nat_le (length s.letters) 65536 && are_fit s.letters)

-- a connection is wanted under connection 0 alone
abbrev pub is_fit : ℕ → Message → Bool
is_fit c (operation r e) = is_fit_edit e
is_fit c (revision r) = true
is_fit c new = c == 0
is_fit c (entry e) = is_fit_operation e.op
is_fit c (text s) = is_fit_sheet s

-- its numbers have 32 bits
abbrev pub OperationInWords : Operation ℕ → Type 0
OperationInWords (Noop i) = Unit {0}
OperationInWords (Insert i p x) = p < 2 ^ 32
OperationInWords (Delete i p) = p < 2 ^ 32

abbrev pub InWords : Message → Type 0
InWords (operation r (edit.Insert p x)) = (r < 2 ^ 32) × (p < 2 ^ 32)
InWords (operation r (edit.Delete p)) = (r < 2 ^ 32) × (p < 2 ^ 32)
InWords (revision r) = r < 2 ^ 32
InWords new = Unit {0}
InWords (entry e) = (e.place < 2 ^ 32) × OperationInWords e.op
InWords (text s) = (s.performed < 2 ^ 32) × (s.revision < 2 ^ 32)

-- what can be sent at once: the numbers of connections and packets have 32 bits, too
abbrev pub Sendable : Datagram Message → Type 0
Sendable (datagram.Packet p) = (p.connection < 2 ^ 32) × (p.number < 2 ^ 32) × (is_fit p.connection p.message ≡ true) × InWords p.message
Sendable (datagram.Acknowledgement a) = (a.connection < 2 ^ 32) × (a.last < 2 ^ 32)

-- a datagram with other messages
abbrev pub with_message : {M N : Type 0} → (M → N) → Datagram M → Datagram N
with_message f (datagram.Packet p) = datagram.Packet (record { connection = p.connection; number = p.number; message = f p.message })
with_message f (datagram.Acknowledgement a) = datagram.Acknowledgement a

-- the server sends it; both ends send acknowledgements
abbrev pub ByServer : Datagram Message → Type 0
ByServer (datagram.Packet p) = is_from_client p.message ≡ false
ByServer (datagram.Acknowledgement a) = Unit {0}
