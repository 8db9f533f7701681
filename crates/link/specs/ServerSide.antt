-- THE RULES FOR CONNECTIONS AT THE SERVER'S END of a line. Without a connection there is no seat.
use Rattle.std.specs.Prelude.{ℕ, ◌+◌, ◌-◌, Bool, true, false, ◌&&◌, ◌||◌, Some, None, Option, Ok, Err, Result, List, option_map, if◌then◌else◌, nat_lt, ◌==◌}
use Rattle.link.specs.declared.datagram.Acknowledgement.{Acknowledgement}
use Rattle.link.specs.declared.datagram.Packet.{Packet}
use Rattle.link.specs.declared.message.FromClient.{FromClient}
use Rattle.link.specs.declared.message.FromClient.TheVariants as client
use Rattle.link.specs.declared.receiver.Receiver.{Receiver}
use Rattle.link.specs.declared.refusal.Refusal.{Refusal}
use Rattle.link.specs.declared.refusal.Refusal.TheVariants.{OtherConnection}
use Rattle.link.specs.declared.server_end.Said.{Said}
use Rattle.link.specs.declared.server_end.Said.TheVariants as said
use Rattle.link.specs.declared.server_end.Seat.{Seat}
use Rattle.link.specs.declared.server_end.Wanted.{Wanted}
use Rattle.link.specs.declared.server_end.Wanted.TheVariants as wanted
use Rattle.link.specs.declared.window.Numbers.{Numbers}
use Rattle.link.specs.Connections.{one_taken}
use Rattle.link.specs.Numbering.{Sending, has_number, pushed, newly_sent, acknowledged_to, under_way, nothing_taken, taken, acknowledgement_of}
use Rattle.std.specs.Global.{Vec}

-- a new connection: the text as of place b of the history is its first message, in this packet
abbrev pub new_seat : ℕ → ℕ → Vec ℕ → Seat
new_seat c b t = record { receiver = nothing_taken c; window = record { acknowledged = 0; total = 1 }; base = b; text = Some t }

abbrev pub connection_at : Option Seat → Option ℕ
connection_at None = None
connection_at (Some x) = Some x.receiver.connection

-- WHAT IS TAKEN: who asks for a connection gets one, and else it is the next of the current connection
abbrev pub is_new : FromClient → Bool
is_new client.New = true
is_new (client.Revision r) = false
is_new (client.Operation r e) = false

abbrev pub wants_message : Result Receiver Refusal → Result Wanted Refusal
wants_message (Ok r) = Ok wanted.Message
wants_message (Err e) = Err e

abbrev pub message_admitted : ℕ → ℕ → Option Seat → Result Wanted Refusal
message_admitted c n None = Err OtherConnection
message_admitted c n (Some x) = wants_message (taken c n x.receiver)

abbrev pub packet_admitted : Packet FromClient → Option Seat → Result Wanted Refusal
packet_admitted p s =
    if is_new p.message
    then (if (p.connection == 0) && (p.number == 1) then Ok wanted.Connection else Err OtherConnection)
    else message_admitted p.connection p.number s

abbrev pub one_taken_at : Option Seat → Option Seat
one_taken_at None = None
one_taken_at (Some x) = Some (record { receiver = one_taken x.receiver; window = x.window; base = x.base; text = x.text })

-- without a connection the answer says that the packet's has ended
abbrev pub server_answer : ℕ → Option Seat → Acknowledgement
server_answer c None = record { connection = 0; last = c }
server_answer c (Some x) = acknowledgement_of x.receiver

-- WHAT IS SENT. The text is kept until it is acknowledged
abbrev pub kept : Sending → Option (Vec ℕ) → Option (Vec ℕ)
kept s t = if nat_lt 0 s.acknowledged then None else t

abbrev pub seat_acknowledged : ℕ → Seat → Seat
seat_acknowledged n x = record { receiver = x.receiver; window = acknowledged_to n x.window; base = x.base; text = kept (acknowledged_to n x.window) x.text }

abbrev pub sends_after_hearing : Acknowledgement → Option Seat → Option Numbers
sends_after_hearing a None = None
sends_after_hearing a (Some x) = if x.receiver.connection == a.connection then Some (newly_sent x.window (acknowledged_to a.last x.window)) else None

abbrev pub after_hearing_at_server : Acknowledgement → Option Seat → Option Seat
after_hearing_at_server a None = None
after_hearing_at_server a (Some x) = Some (if x.receiver.connection == a.connection then seat_acknowledged a.last x else x)

abbrev pub sends_after_growing : Option Seat → Option Numbers
sends_after_growing None = None
sends_after_growing (Some x) = if has_number x.window then Some (newly_sent x.window (pushed x.window)) else None

abbrev pub grown : Option Seat → Option Seat
grown None = None
grown (Some x) = Some (record { receiver = x.receiver; window = pushed x.window; base = x.base; text = x.text })

abbrev pub sends_again : Option Seat → Option Numbers
sends_again None = None
sends_again (Some x) = Some (under_way x.window)

-- number 1 is the text, and number n + 2 the entry n places behind the base
abbrev pub said_at : ℕ → ℕ → Option Said
said_at b n =
    if n == 1 then Some said.Text
    else (if nat_lt (b + (n - 2)) 4294967296 then Some (said.Entry (b + (n - 2))) else None)

abbrev pub said_in_seat : ℕ → Seat → Option Said
said_in_seat n x = if (n == 0) || nat_lt x.window.total n then None else said_at x.base n

abbrev pub said_under : ℕ → Option Seat → Option Said
said_under n None = None
said_under n (Some x) = said_in_seat n x

abbrev pub text_kept : Option Seat → Option (List ℕ)
text_kept None = None
text_kept (Some x) = option_map (λ (v : Vec ℕ). v.items) x.text
