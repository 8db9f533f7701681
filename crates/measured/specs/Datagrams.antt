-- Datagrams in numbers, and what reading and writing them writes.
use Rattle.std.specs.Prelude.{◌≡◌, ℕ, ◌≤◌, List, [], length, Some, None, Option, option_map, if◌then◌else◌, ◌==◌}
use Rattle.operation.specs.declared.operation.Operation.{Operation}
use Rattle.operation.specs.declared.operation.Operation.TheVariants.{Noop, Insert, Delete}
use Rattle.text.specs.Texts.{Letter, numbers, authors}
use Rattle.link.specs.declared.datagram.Acknowledgement.{Acknowledgement}
use Rattle.link.specs.declared.datagram.Datagram.{Datagram}
use Rattle.link.specs.declared.datagram.Datagram.TheVariants as datagram
use Rattle.link.specs.declared.message.FromClient.{FromClient}
use Rattle.link.specs.declared.message.FromClient.TheVariants as client
use Rattle.link.specs.declared.message.Edit.{Edit}
use Rattle.link.specs.Letters.{over}
use Rattle.link.specs.Messages.{Message, Sheet, operation, revision, new, entry, text, edit_of, signed_by, from_client, Sendable}
use Rattle.link.specs.Spelling.{spelling}
use Rattle.measured.specs.declared.datagram_row.DatagramRow.{DatagramRow}
use Rattle.measured.specs.Rows.{operation_of}

-- A DATAGRAM'S NUMBERS. kind: 0 is an acknowledgement, 1 an operation, 2 an entry, 3 a revision, 4 new, 5 a text
abbrev pub bare_row : (kind connection number : ℕ) → DatagramRow
bare_row k c n = record { kind = k; change = 0; site = 0; connection = c; number = n; revision = 0; place = 0; letter = 0; performed = 0; letters = 0 }

abbrev pub with_operation : Operation ℕ → DatagramRow → DatagramRow
with_operation (Noop i) d = record d { site = i }
with_operation (Insert i p x) d = record d { change = 1; site = i; place = p; letter = x }
with_operation (Delete i p) d = record d { change = 2; site = i; place = p }

abbrev pub with_revision : ℕ → DatagramRow → DatagramRow
with_revision r d = record d { revision = r }

abbrev pub message_row : ℕ → ℕ → Message → DatagramRow
message_row c n (operation r e) = with_operation (signed_by 0 e) (with_revision r (bare_row 1 c n))
message_row c n (entry e) = with_operation e.op (with_revision e.place (bare_row 2 c n))
message_row c n (revision r) = with_revision r (bare_row 3 c n)
message_row c n new = bare_row 4 c n
message_row c n (text s) = record (bare_row 5 c n) { site = s.site; revision = s.revision; performed = s.performed; letters = length s.letters }

abbrev pub row_of : Datagram Message → DatagramRow
row_of (datagram.Acknowledgement a) = bare_row 0 a.connection a.last
row_of (datagram.Packet p) = message_row p.connection p.number p.message

-- the letters of a text; any other datagram has none
abbrev pub letters_in_message : Message → List Letter
letters_in_message (text s) = s.letters
letters_in_message (operation r e) = []
letters_in_message (revision r) = []
letters_in_message new = []
letters_in_message (entry e) = []

abbrev pub letters_said : Datagram Message → List Letter
letters_said (datagram.Acknowledgement a) = []
letters_said (datagram.Packet p) = letters_in_message p.message

-- WHAT NUMBERS SAY, if they say anything
abbrev pub operation_in : DatagramRow → Operation ℕ
operation_in d = operation_of (record { kind = d.change; site = d.site; revision = d.revision; place = d.place; letter = d.letter })

abbrev pub with_edit : ℕ → Option Edit → Option FromClient
with_edit r None = None
with_edit r (Some e) = Some (client.Operation r e)

abbrev pub client_message_in : DatagramRow → Option FromClient
client_message_in d =
    if d.kind == 1 then with_edit d.revision (edit_of (operation_in d))
    else (if d.kind == 3 then Some (client.Revision d.revision)
    else (if d.kind == 4 then Some client.New else None))

abbrev pub text_in : DatagramRow → List Letter → Sheet
text_in d ls = record { site = d.site; performed = d.performed; revision = d.revision; letters = ls }

abbrev pub message_in : DatagramRow → List Letter → Option Message
message_in d ls =
    if d.kind == 2 then Some (entry (record { place = d.revision; op = operation_in d }))
    else (if d.kind == 5 then Some (text (text_in d ls))
    else option_map from_client (client_message_in d))

abbrev pub packet_in : DatagramRow → Message → Datagram Message
packet_in d m = datagram.Packet (record { connection = d.connection; number = d.number; message = m })

abbrev pub acknowledgement_in : DatagramRow → Acknowledgement
acknowledgement_in d = record { connection = d.connection; last = d.number }

abbrev pub datagram_in : DatagramRow → List Letter → Option (Datagram Message)
datagram_in d ls =
    if d.kind == 0 then Some (datagram.Acknowledgement (acknowledgement_in d))
    else option_map (packet_in d) (message_in d ls)

-- WHAT IS WRITTEN
-- these are the bytes of a datagram that can be sent
pub record Spells (said : Option (Datagram Message)) (bytes : List ℕ) : Type 0 where
  pub datagram : Datagram Message
  pub is_said : said ≡ Some datagram
  pub sendable : Sendable datagram
  pub spelled : bytes ≡ spelling datagram

-- they stand at the front, and nothing else is written
pub record Writes (said : Option (Datagram Message)) (was now : List ℕ) (count : ℕ) : Type 0 where
  pub bytes : List ℕ
  pub spells : Spells said bytes
  pub all : count ≡ length bytes
  pub front : now ≡ over bytes was

abbrev pub SpellsSoMany : Option (Datagram Message) → ℕ → Type 0
SpellsSoMany said count = (bytes : List ℕ) × Spells said bytes × (count ≡ length bytes)

-- a datagram was read, and is shown in numbers
pub record Reads (d : Datagram Message) (bytes : List ℕ) (row : DatagramRow) : Type 0 where
  pub sendable : Sendable d
  pub spelled : bytes ≡ spelling d
  pub shown : row ≡ row_of d

-- its letters and their sites are written at the front
pub record Takes (d : Datagram Message) (letters_was letters_now sites_was sites_now : List ℕ) : Type 0 where
  pub letters : letters_now ≡ over (numbers (letters_said d)) letters_was
  pub sites : sites_now ≡ over (authors (letters_said d)) sites_was

abbrev pub HasRoom : Datagram Message → List ℕ → List ℕ → Type 0
HasRoom d letters sites = (length (letters_said d) ≤ length letters) × (length (letters_said d) ≤ length sites)
