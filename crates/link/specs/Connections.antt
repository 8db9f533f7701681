-- THE RULES FOR CONNECTIONS, at the two ends of a line.
use Rattle.std.specs.Prelude.{ℕ, ◌+◌, min, Bool, true, false, ◌&&◌, Some, None, Option, Ok, Err, Result, if◌then◌else◌, nat_le, ◌==◌}
use Rattle.link.specs.declared.client_end.Channel.{Channel}
use Rattle.link.specs.declared.client_end.Heard.{Heard}
use Rattle.link.specs.declared.client_end.Heard.TheVariants as heard
use Rattle.link.specs.declared.client_end.Again.{Again}
use Rattle.link.specs.declared.client_end.Again.TheVariants as again
use Rattle.link.specs.declared.datagram.Acknowledgement.{Acknowledgement}
use Rattle.link.specs.declared.datagram.Packet.{Packet}
use Rattle.link.specs.declared.message.FromClient.{FromClient}
use Rattle.link.specs.declared.message.FromClient.TheVariants as client
use Rattle.link.specs.declared.receiver.Receiver.{Receiver}
use Rattle.link.specs.declared.refusal.Refusal.{Refusal}
use Rattle.link.specs.declared.refusal.Refusal.TheVariants.{OtherConnection, NotNext}
use Rattle.link.specs.declared.window.Numbers.{Numbers}
use Rattle.link.specs.Numbering.{newly_sent, under_way, taken, acknowledgement_of}
use Rattle.link.specs.Outboxes.{OutboxState, empty_outbox, sending_of, sent_now, with_message_more, without_acknowledged, message_under}

-- how a client asks for a connection: the only packet under connection 0 that is taken
abbrev pub request_packet : Packet FromClient
request_packet = record { connection = 0; number = 1; message = client.New }

-- whether something is taken, without what it leaves
abbrev pub admitted : Result Receiver Refusal → Result (Unit {0}) Refusal
admitted (Ok r) = Ok tt
admitted (Err e) = Err e

-- A CLIENT'S END. highest: the highest connection that it ever took; is_asking: it wants a new one; channel: the one that it has
pub record ClientSide : Type 0 where
  pub highest : ℕ
  pub is_asking : Bool
  pub channel : Option Channel

abbrev pub asking_above : ℕ → ClientSide
asking_above h = record { highest = h; is_asking = true; channel = None }

-- a text is taken if its connection is higher than any that was taken before
abbrev pub text_admitted : ℕ → ℕ → ClientSide → Result (Unit {0}) Refusal
text_admitted c n s = if nat_le c s.highest then Err OtherConnection else (if n == 1 then Ok tt else Err NotNext)

abbrev pub entry_admitted_in : ℕ → ℕ → Option Channel → Result (Unit {0}) Refusal
entry_admitted_in c n None = Err OtherConnection
entry_admitted_in c n (Some x) = admitted (taken c n x.receiver)

abbrev pub entry_admitted : ℕ → ℕ → ClientSide → Result (Unit {0}) Refusal
entry_admitted c n s = entry_admitted_in c n s.channel

-- the text is its first message
abbrev pub begun : ℕ → ClientSide
begun c = record { highest = c; is_asking = false; channel = Some (record { receiver = record { connection = c; last = 1 }; outbox = empty_outbox }) }

abbrev pub with_channel : Option Channel → ClientSide → ClientSide
with_channel x s = record { highest = s.highest; is_asking = s.is_asking; channel = x }

-- numbers have 32 bits
abbrev pub one_taken : Receiver → Receiver
one_taken r = record { connection = r.connection; last = min (r.last + 1) 4294967295 }

abbrev pub after_entry_in : Option Channel → Option Channel
after_entry_in None = None
after_entry_in (Some x) = Some (record { receiver = one_taken x.receiver; outbox = x.outbox })

abbrev pub after_entry : ClientSide → ClientSide
after_entry s = with_channel (after_entry_in s.channel) s

abbrev pub client_answer_in : Option Channel → Option Acknowledgement
client_answer_in None = None
client_answer_in (Some x) = Some (acknowledgement_of x.receiver)

abbrev pub client_answer : ClientSide → Option Acknowledgement
client_answer s = client_answer_in s.channel

-- under connection 0 an acknowledgement says which connection has ended
abbrev pub says_ended : ℕ → Acknowledgement → Bool
says_ended c a = (a.connection == 0) && (a.last == c)

abbrev pub with_outbox : OutboxState FromClient → Channel → Channel
with_outbox o x = record { receiver = x.receiver; outbox = o }

abbrev pub heard_in_channel : Acknowledgement → Channel → Heard
heard_in_channel a x =
    if says_ended x.receiver.connection a then heard.Ended
    else (if a.connection == x.receiver.connection then heard.MaySend (newly_sent (sending_of x.outbox) (sending_of (without_acknowledged a.last x.outbox))) else heard.Nothing)

abbrev pub channel_after_hearing : Acknowledgement → Channel → Channel
channel_after_hearing a x =
    if says_ended x.receiver.connection a then x
    else (if a.connection == x.receiver.connection then with_outbox (without_acknowledged a.last x.outbox) x else x)

abbrev pub heard_in : Acknowledgement → Option Channel → Heard
heard_in a None = heard.Nothing
heard_in a (Some x) = heard_in_channel a x

abbrev pub heard_by_client : Acknowledgement → ClientSide → Heard
heard_by_client a s = heard_in a s.channel

-- with the news that its connection has ended it wants a new one
abbrev pub asks_because_of : Heard → Bool → Bool
asks_because_of heard.Ended asking = true
asks_because_of heard.Nothing asking = asking
asks_because_of (heard.MaySend n) asking = asking

abbrev pub after_hearing_in : Acknowledgement → Option Channel → Option Channel
after_hearing_in a None = None
after_hearing_in a (Some x) = Some (channel_after_hearing a x)

abbrev pub after_hearing : Acknowledgement → ClientSide → ClientSide
after_hearing a s = record { highest = s.highest; is_asking = asks_because_of (heard_by_client a s) s.is_asking; channel = after_hearing_in a s.channel }

abbrev pub client_sends_in : FromClient → Option Channel → Option Numbers
client_sends_in m None = None
client_sends_in m (Some x) = sent_now m x.outbox

abbrev pub client_sends : FromClient → ClientSide → Option Numbers
client_sends m s = client_sends_in m s.channel

abbrev pub after_sending_in : FromClient → Option Channel → Option Channel
after_sending_in m None = None
after_sending_in m (Some x) = Some (with_outbox (with_message_more m x.outbox) x)

abbrev pub after_sending : FromClient → ClientSide → ClientSide
after_sending m s = with_channel (after_sending_in m s.channel) s

abbrev pub packet_with : ℕ → ℕ → Option FromClient → Option (Packet FromClient)
packet_with c n None = None
packet_with c n (Some m) = Some (record { connection = c; number = n; message = m })

abbrev pub client_packet_in : ℕ → Option Channel → Option (Packet FromClient)
client_packet_in n None = None
client_packet_in n (Some x) = packet_with x.receiver.connection n (message_under n x.outbox)

abbrev pub client_packet : ℕ → ClientSide → Option (Packet FromClient)
client_packet n s = client_packet_in n s.channel

abbrev pub sends_again_in : Bool → Option Channel → Again
sends_again_in asking None = again.Ask
sends_again_in asking (Some x) = if asking then again.Ask else again.Messages (under_way (sending_of x.outbox))

abbrev pub client_sends_again : ClientSide → Again
client_sends_again s = sends_again_in s.is_asking s.channel
