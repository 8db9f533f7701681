-- What happens at a client's end of its line, and what comes of it.
use Rattle.std.specs.Prelude.{◌≡◌, Some, None, Option, Ok, Err, Result, if◌then◌else◌, ◌==◌}
use Rattle.link.specs.declared.client_end.Again.{Again}
use Rattle.link.specs.declared.client_end.Again.TheVariants as again
use Rattle.link.specs.declared.client_end.Heard.{Heard}
use Rattle.link.specs.declared.client_end.Heard.TheVariants as heard
use Rattle.link.specs.declared.datagram.Acknowledgement.{Acknowledgement}
use Rattle.link.specs.declared.datagram.Datagram.TheVariants as datagram
use Rattle.link.specs.declared.datagram.Packet.{Packet}
use Rattle.link.specs.declared.message.FromClient.{FromClient}
use Rattle.link.specs.declared.refusal.Refusal.{Refusal}
use Rattle.link.specs.Connections.{ClientSide, text_admitted, entry_admitted, begun, after_entry, client_answer, heard_by_client, after_hearing, client_sends, after_sending, client_packet, client_sends_again}
use Rattle.link.specs.Messages.{from_client, with_message}
use Rattle.measured.specs.declared.event.Event.{Event}
use Rattle.measured.specs.declared.event.Outcome.{Outcome}
use Rattle.measured.specs.Datagrams.{row_of, client_message_in, acknowledgement_in}
use Rattle.measured.specs.Ends.{answered, refused, numbered, numbered_if_any, shown}

abbrev pub again_outcome : Again → Outcome
again_outcome again.Ask = answered 2
again_outcome (again.Messages n) = numbered 1 n

abbrev pub admission_outcome : Result (Unit {0}) Refusal → Outcome
admission_outcome (Ok u) = answered 1
admission_outcome (Err e) = refused e

abbrev pub packet_outcome : Option (Packet FromClient) → Outcome
packet_outcome None = answered 0
packet_outcome (Some p) = shown (row_of (with_message from_client (datagram.Packet p)))

abbrev pub answer_outcome : Option Acknowledgement → Outcome
answer_outcome None = answered 0
answer_outcome (Some a) = shown (row_of (datagram.Acknowledgement a))

abbrev pub heard_outcome : Heard → Outcome
heard_outcome heard.Nothing = answered 0
heard_outcome (heard.MaySend n) = numbered 1 n
heard_outcome heard.Ended = answered 2

-- the highest connection, and whether it asks for one
abbrev pub state_outcome : ClientSide → Outcome
state_outcome s = record (answered 1) { after = s.highest; count = (if s.is_asking then 1 else 0) }

-- WHAT IS SEEN. 0: what a tick sends; 1: whether a packet is taken; 3: the message of a number; 4: what is answered
abbrev pub seen_at_client : Event → ClientSide → Outcome
seen_at_client e s =
    if e.kind == 0 then again_outcome (client_sends_again s)
    else (if e.kind == 1 then admission_outcome (if e.datagram.kind == 5 then text_admitted e.datagram.connection e.datagram.number s else entry_admitted e.datagram.connection e.datagram.number s)
    else (if e.kind == 3 then packet_outcome (client_packet e.datagram.number s)
    else (if e.kind == 4 then answer_outcome (client_answer s) else state_outcome s)))

abbrev pub after_sending_if_any : Option FromClient → ClientSide → ClientSide
after_sending_if_any None s = s
after_sending_if_any (Some m) s = after_sending m s

abbrev pub sending_outcome : Option FromClient → ClientSide → Outcome
sending_outcome None s = answered 0
sending_outcome (Some m) s = numbered_if_any (client_sends m s)

-- WHAT HAPPENS. 2: an acknowledgement comes; 5: it begins with a connection; 6: it has seen an entry; 7: it has a message to send
abbrev pub client_after : Event → ClientSide → ClientSide
client_after e s =
    if e.kind == 2 then after_hearing (acknowledgement_in e.datagram) s
    else (if e.kind == 5 then begun e.datagram.connection
    else (if e.kind == 6 then after_entry s
    else (if e.kind == 7 then after_sending_if_any (client_message_in e.datagram) s else s)))

abbrev pub client_outcome : Event → ClientSide → Outcome
client_outcome e s =
    if e.kind == 2 then heard_outcome (heard_by_client (acknowledgement_in e.datagram) s)
    else (if e.kind == 5 then answered 1
    else (if e.kind == 6 then answered 1
    else (if e.kind == 7 then sending_outcome (client_message_in e.datagram) s else seen_at_client e s)))

abbrev pub ClientStep : ClientSide → Event → Outcome → ClientSide → Type 0
ClientStep s e o t = (o ≡ client_outcome e s) × (t ≡ client_after e s)
