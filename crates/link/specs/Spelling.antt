-- The bytes of what is sent: each has one spelling. Numbers have the high byte first.
use Rattle.std.specs.Prelude.{ℕ, ◌%◌, List, [], ◌∷◌, ◌++◌, length, sum}
use Rattle.std.specs.Int.{w16, w32, to_be_bytes}
use Rattle.operation.specs.declared.operation.Operation.{Operation}
use Rattle.operation.specs.declared.operation.Operation.TheVariants.{Noop, Insert, Delete}
use Rattle.operation.specs.Edits.{site}
use Rattle.link.specs.declared.message.Edit.{Edit}
use Rattle.link.specs.declared.message.Edit.TheVariants as edit
use Rattle.link.specs.declared.datagram.Datagram.{Datagram}
use Rattle.link.specs.declared.datagram.Datagram.TheVariants as datagram
use Rattle.link.specs.declared.fields.OperationCode.{OperationCode}
use Rattle.link.specs.Letters.{spelled_letters}
use Rattle.link.specs.Messages.{Message, operation, revision, new, entry, text, with_message}

-- a number in four bytes
abbrev pub word : ℕ → List ℕ
word n = to_be_bytes w32 n

-- an operation's kind, its place and its letter: 0 where it has none
abbrev pub edit_code : Edit → OperationCode
edit_code (edit.Insert p x) = record { kind = 1; place = p; letter = x }
edit_code (edit.Delete p) = record { kind = 2; place = p; letter = 0 }

abbrev pub operation_code : Operation ℕ → OperationCode
operation_code (Noop i) = record { kind = 0; place = 0; letter = 0 }
operation_code (Insert i p x) = record { kind = 1; place = p; letter = x }
operation_code (Delete i p) = record { kind = 2; place = p; letter = 0 }

abbrev pub spelled_code : OperationCode → List ℕ
spelled_code f = f.kind ∷ (word f.place ++ word f.letter)

-- a text up to its letters: the connection, the client's site, how many of its operations the history has, the revision, and how many letters
abbrev pub text_head : ℕ → ℕ → ℕ → ℕ → ℕ → List ℕ
text_head c i m r n = 5 ∷ (word c ++ i ∷ (word m ++ (word r ++ word n)))

-- a message, in a packet of connection c
abbrev pub spelled : ℕ → Message → List ℕ
spelled c (operation r e) = 1 ∷ (word r ++ spelled_code (edit_code e))
spelled c (entry e) = 2 ∷ (word e.place ++ site e.op ∷ spelled_code (operation_code e.op))
spelled c (revision r) = 3 ∷ word r
spelled c new = 4 ∷ []
spelled c (text s) = 5 ∷ (word c ++ s.site ∷ (word s.performed ++ (word s.revision ++ (word (length s.letters) ++ spelled_letters s.letters))))

-- a packet is all this with the sum of its bytes behind it, cut to 16 bits; so is an acknowledgement
abbrev pub headed : ℕ → ℕ → ℕ → List ℕ → List ℕ
headed kind c n rest = kind ∷ (word c ++ (word n ++ rest))

abbrev pub sealed : List ℕ → List ℕ
sealed bytes = bytes ++ to_be_bytes w16 (sum bytes % 65536)

-- where the message is bytes already
abbrev pub enclosed : Datagram (List ℕ) → List ℕ
enclosed (datagram.Packet p) = sealed (headed 84 p.connection p.number p.message)
enclosed (datagram.Acknowledgement a) = sealed (headed 85 a.connection a.last [])

abbrev pub connection_of : {M : Type 0} → Datagram M → ℕ
connection_of (datagram.Packet p) = p.connection
connection_of (datagram.Acknowledgement a) = a.connection

abbrev pub spelling : Datagram Message → List ℕ
spelling d = enclosed (with_message (spelled (connection_of d)) d)
