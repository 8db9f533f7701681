-- What happens at the server's end of a line, and what comes of it.
use Rattle.std.specs.Prelude.{◌≡◌, ℕ, List, length, replicate, Some, None, Option, Ok, Err, Result, if◌then◌else◌, ◌==◌}
use Rattle.std.specs.Global.{Vec}
use Rattle.link.specs.declared.datagram.Datagram.TheVariants as datagram
use Rattle.link.specs.declared.message.FromClient.{FromClient}
use Rattle.link.specs.declared.refusal.Refusal.{Refusal}
use Rattle.link.specs.declared.server_end.Said.{Said}
use Rattle.link.specs.declared.server_end.Said.TheVariants as said
use Rattle.link.specs.declared.server_end.Seat.{Seat}
use Rattle.link.specs.declared.server_end.Wanted.{Wanted}
use Rattle.link.specs.declared.server_end.Wanted.TheVariants as wanted
use Rattle.link.specs.ServerSide.{new_seat, connection_at, packet_admitted, one_taken_at, server_answer, sends_after_hearing, after_hearing_at_server, sends_after_growing, grown, sends_again, said_under, text_kept}
use Rattle.measured.specs.declared.datagram_row.DatagramRow.{DatagramRow}
use Rattle.measured.specs.declared.event.Event.{Event}
use Rattle.measured.specs.declared.event.Outcome.{Outcome}
use Rattle.measured.specs.Datagrams.{bare_row, row_of, client_message_in, acknowledgement_in}
use Rattle.measured.specs.Ends.{answered, refused, numbered_if_any, shown}

abbrev pub wanted_outcome : Result Wanted Refusal → Outcome
wanted_outcome (Ok wanted.Message) = answered 1
wanted_outcome (Ok wanted.Connection) = answered 2
wanted_outcome (Err e) = refused e

abbrev pub admission_at_server : ℕ → ℕ → Option FromClient → Option Seat → Outcome
admission_at_server c n None s = answered 0
admission_at_server c n (Some m) s = wanted_outcome (packet_admitted (record { connection = c; number = n; message = m }) s)

abbrev pub said_outcome : Option Said → Outcome
said_outcome None = answered 0
said_outcome (Some said.Text) = answered 1
said_outcome (Some (said.Entry p)) = record (answered 2) { after = p }

-- its connection, and how long the text is that it keeps
abbrev pub length_kept : Option (List ℕ) → ℕ
length_kept None = 0
length_kept (Some t) = length t

abbrev pub connection_outcome : ℕ → Option ℕ → Outcome
connection_outcome n None = answered 0
connection_outcome n (Some c) = record (shown (record (bare_row 0 0 0) { letters = n })) { after = c }

abbrev pub state_of_server : Option Seat → Outcome
state_of_server s = connection_outcome (length_kept (text_kept s)) (connection_at s)

-- WHAT IS SEEN. 0: what a tick sends; 1: whether a packet is taken; 3: what a number stands for; 4: what is answered
abbrev pub seen_at_server : Event → Option Seat → Outcome
seen_at_server e s =
    if e.kind == 0 then numbered_if_any (sends_again s)
    else (if e.kind == 1 then admission_at_server e.datagram.connection e.datagram.number (client_message_in e.datagram) s
    else (if e.kind == 3 then said_outcome (said_under e.datagram.number s)
    else (if e.kind == 4 then shown (row_of (datagram.Acknowledgement (server_answer e.datagram.connection s))) else state_of_server s)))

-- WHAT HAPPENS. 2: an acknowledgement comes; 5: a connection is given, with a text of so many bytes; 6: a message is taken; 7: the history
-- has an entry more; 8: the connection ends
abbrev pub server_outcome : Event → Option Seat → Outcome
server_outcome e s =
    if e.kind == 2 then numbered_if_any (sends_after_hearing (acknowledgement_in e.datagram) s)
    else (if e.kind == 5 then answered 1
    else (if e.kind == 6 then answered 1
    else (if e.kind == 7 then numbered_if_any (sends_after_growing s)
    else (if e.kind == 8 then answered 1 else seen_at_server e s))))

-- a connection with a text of so many bytes
abbrev pub Gives : DatagramRow → Option Seat → Type 0
Gives d t = (v : Vec ℕ) × (v.items ≡ replicate d.letters 7) × (t ≡ Some (new_seat d.connection d.revision v))

abbrev pub server_after : Option Seat → Event → Option Seat → Option Seat
server_after new e s =
    if e.kind == 2 then after_hearing_at_server (acknowledgement_in e.datagram) s
    else (if e.kind == 5 then new
    else (if e.kind == 6 then one_taken_at s
    else (if e.kind == 7 then grown s
    else (if e.kind == 8 then None else s))))

pub record ServerStep (s : Option Seat) (e : Event) (o : Outcome) (t : Option Seat) : Type 0 where
  pub outcome : o ≡ server_outcome e s
  pub new : Option Seat
  pub gives : e.kind ≡ 5 → Gives e.datagram new
  pub after : t ≡ server_after new e s
