-- WHAT NEVER CHANGES in a connection, and from one connection to the next.
use Rattle.std.specs.Prelude.{◌≡◌, ℕ, suc, ◌+◌, ◌-◌, ◌<◌, ◌≤◌, ◌^◌, List, [], ◌∷◌, ◌++◌, length, take, drop, Some, None, Option, Ok, Err, Result, if◌then◌else◌, slice_get}
use Rattle.operation.specs.declared.operation.Operation.{Operation}
use Rattle.link.specs.declared.datagram.Acknowledgement.{Acknowledgement}
use Rattle.link.specs.declared.message.FromClient.{FromClient}
use Rattle.link.specs.declared.refusal.Refusal.{Refusal}
use Rattle.link.specs.declared.server_end.Said.{Said}
use Rattle.link.specs.declared.server_end.Said.TheVariants as said
use Rattle.link.specs.declared.server_end.Seat.{Seat}
use Rattle.link.specs.Connections.{ClientSide, text_admitted, begun, after_entry, after_hearing, after_sending}
use Rattle.link.specs.Messages.{Message, entry, text, Sheet}
use Rattle.link.specs.Numbering.{has_number}
use Rattle.link.specs.Outboxes.{OutboxState, empty_outbox, sending_of, with_message_more, without_acknowledged, message_under}
use Rattle.link.specs.ServerSide.{said_in_seat}

-- A CLIENT'S MESSAGES. What an outbox has under a number is the message that was put in under it, whatever was put in and acknowledged since
pub data OutboxEvent (M : Type 0) : Type 0 where
  Pushes : M → OutboxEvent M
  Acknowledges : ℕ → OutboxEvent M

-- the outbox, and all that was put in, number 1 first
pub record Posted (M : Type 0) : Type 0 where
  pub outbox : OutboxState M
  pub sent : List M

module _ {M : Type 0} where
  abbrev pub nothing_posted : Posted M
  nothing_posted = record { outbox = empty_outbox; sent = [] }

  abbrev pub posts : OutboxEvent M → Posted M → Posted M
  posts (Pushes m) p = record { outbox = with_message_more m p.outbox; sent = if has_number (sending_of p.outbox) then p.sent ++ m ∷ [] else p.sent }
  posts (Acknowledges n) p = record { outbox = without_acknowledged n p.outbox; sent = p.sent }

  unfoldable pub posted : List (OutboxEvent M) → Posted M → Posted M
  posted [] p = p
  posted (e ∷ es) p = posted es (posts e p)

abbrev pub OutboxKeeps : (M : Type 0) → Type 0
OutboxKeeps M = (es : List (OutboxEvent M)) (n : ℕ) → (posted es nothing_posted).outbox.acknowledged ≤ n →
    message_under (suc n) (posted es nothing_posted).outbox ≡ slice_get (posted es nothing_posted).sent n

-- THE SERVER'S MESSAGES: the text, and the entries from its revision on
unfoldable pub entries_from : ℕ → List (Operation ℕ) → List Message
entries_from p [] = []
entries_from p (o ∷ os) = entry (record { place = p; op = o }) ∷ entries_from (suc p) os

abbrev pub messages_of : Sheet → ℕ → List (Operation ℕ) → List Message
messages_of t b h = text t ∷ entries_from b (drop b h)

abbrev pub entry_with : ℕ → Option (Operation ℕ) → Option Message
entry_with k None = None
entry_with k (Some o) = Some (entry (record { place = k; op = o }))

-- what is meant by what a seat says of a number, where that is the text and this the history
abbrev pub meant : Sheet → List (Operation ℕ) → Option Said → Option Message
meant t h None = None
meant t h (Some said.Text) = Some (text t)
meant t h (Some (said.Entry k)) = entry_with k (slice_get h k)

pub record FeedKeeps : Type 0 where
  -- no queue is needed: a seat that has counted the entries knows each number's message
  pub numbers : (t : Sheet) (h : List (Operation ℕ)) (x : Seat) (n : ℕ) → x.base ≤ length h → length h < 2 ^ 32 → x.window.total ≡ length h - x.base + 1 →
      meant t h (said_in_seat (suc n) x) ≡ slice_get (messages_of t x.base h) n
  -- and a history that grows leaves them as they were
  pub grows : (t : Sheet) (b : ℕ) (h more : List (Operation ℕ)) → b ≤ length h →
      take (length (messages_of t b h)) (messages_of t b (h ++ more)) ≡ messages_of t b h

-- FROM ONE CONNECTION TO THE NEXT. Whatever comes to a client, the connections whose texts it takes ascend: a late copy of an old text is never taken
pub data ClientEvent : Type 0 where
  Text_comes : (connection number : ℕ) → ClientEvent
  Entry_seen : ClientEvent
  Hears : Acknowledgement → ClientEvent
  Sends : FromClient → ClientEvent

abbrev pub if_admitted : Result (Unit {0}) Refusal → ℕ → ClientSide → ClientSide
if_admitted (Ok u) c s = begun c
if_admitted (Err e) c s = s

abbrev pub client_after : ClientEvent → ClientSide → ClientSide
client_after (Text_comes c n) s = if_admitted (text_admitted c n s) c s
client_after Entry_seen s = after_entry s
client_after (Hears a) s = after_hearing a s
client_after (Sends m) s = after_sending m s

abbrev pub one_if : Result (Unit {0}) Refusal → ℕ → List ℕ
one_if (Ok u) c = c ∷ []
one_if (Err e) c = []

-- the connection that an event begins
abbrev pub begins : ClientEvent → ClientSide → List ℕ
begins (Text_comes c n) s = one_if (text_admitted c n s) c
begins Entry_seen s = []
begins (Hears a) s = []
begins (Sends m) s = []

unfoldable pub all_begun : List ClientEvent → ClientSide → List ℕ
all_begun [] s = []
all_begun (e ∷ es) s = begins e s ++ all_begun es (client_after e s)

-- each is above the one before
unfoldable pub AscendsFrom : ℕ → List ℕ → Type 0
AscendsFrom h [] = Unit {0}
AscendsFrom h (c ∷ cs) = (h < c) × AscendsFrom c cs

abbrev pub ConnectionsAscend : Type 0
ConnectionsAscend = (es : List ClientEvent) (s : ClientSide) → AscendsFrom s.highest (all_begun es s)
