-- NUMBERS OVER A BAD LINE. Whatever of the packets and acknowledgements that were ever sent comes, in any order, any number of times
-- or never, what is taken is a first part of what was sent, in order, each once; and as long as now and then a round of what is sent
-- again comes through, all of it is taken.
use Rattle.std.specs.Prelude.{◌≡◌, ℕ, suc, zero, ◌+◌, ◌-◌, ◌*◌, ◌<◌, ◌≤◌, cond, List, [], ◌∷◌, ◌++◌, length, take, drop, Some, None, Option, Ok, Err, Result, ◌==◌, slice_get}
use Rattle.operation.specs.Letters.{◌∈◌}
use Rattle.link.specs.declared.datagram.Packet.{Packet}
use Rattle.link.specs.declared.datagram.Acknowledgement.{Acknowledgement}
use Rattle.link.specs.declared.refusal.Refusal.{Refusal}
use Rattle.link.specs.declared.receiver.Receiver.{Receiver}
use Rattle.link.specs.declared.window.Numbers.{Numbers}
use Rattle.link.specs.Numbering.{Sending, nothing_sent, has_number, pushed, acknowledged_to, last_sent, newly_sent, under_way, nothing_taken, taken, acknowledgement_of}

-- One direction of one connection. sent: all messages that there were to send so far, number 1 first; packets: every packet that was
-- ever put on the line; got: what the other end has taken; replies: every acknowledgement that it ever put on the line
pub record Line (M : Type 0) : Type 0 where
  pub sent : List M
  pub sending : Sending
  pub packets : List (Packet M)
  pub receiver : Receiver
  pub got : List M
  pub replies : List Acknowledgement

-- what may happen. A loss is something that never comes
pub data Event (M : Type 0) : Type 0 where
  -- there is one message more to send
  Push : M → Event M
  Tick : Event M
  -- a packet or an acknowledgement comes that was ever sent, by its place among these
  Packet_comes : (which : ℕ) → Event M
  Reply_comes : (which : ℕ) → Event M
  -- whatever comes of another connection
  Stray_packet : Packet M → Event M
  Stray_reply : Acknowledgement → Event M

-- what else happens in a round: before its tick, before the packet at each place, and before the answer
pub record Others (M : Type 0) : Type 0 where
  pub before_tick : List (Event M)
  pub before_packet : ℕ → List (Event M)
  pub before_answer : List (Event M)

-- a list of which there is only more at the end
pub record Grows {A : Type 0} (was now : List A) : Type 0 where
  pub more : List A
  pub whole : now ≡ was ++ more

module _ {M : Type 0} where
  -- a new connection
  abbrev pub opened : ℕ → Line M
  opened c = record { sent = []; sending = nothing_sent; packets = []; receiver = nothing_taken c; got = []; replies = [] }

  -- messages as packets, the first of them with number n
  unfoldable pub numbered : ℕ → ℕ → List M → List (Packet M)
  numbered c n [] = []
  numbered c n (m ∷ ms) = record { connection = c; number = n; message = m } ∷ numbered c (suc n) ms

  abbrev pub packets_of : ℕ → Numbers → List M → List (Packet M)
  packets_of c ns ms = numbered c (ns.after + 1) (take ns.count (drop ns.after ms))

  -- the end that sends is in another state, and sends these
  abbrev pub sends : Sending → List M → Numbers → Line M → Line M
  sends s ms ns w = record { sent = ms; sending = s; packets = w.packets ++ packets_of w.receiver.connection ns ms; receiver = w.receiver; got = w.got; replies = w.replies }

  -- a packet comes: it is taken, or refused; either is answered with the last number that is taken now
  abbrev pub answers : Receiver → List M → Line M → Line M
  answers r ms w = record { sent = w.sent; sending = w.sending; packets = w.packets; receiver = r; got = w.got ++ ms; replies = w.replies ++ acknowledgement_of r ∷ [] }

  abbrev pub decided : M → Result Receiver Refusal → Line M → Line M
  decided m (Ok r) w = answers r (m ∷ []) w
  decided m (Err e) w = answers w.receiver [] w

  abbrev pub packet_came : Packet M → Line M → Line M
  packet_came p w = decided p.message (taken p.connection p.number w.receiver) w

  -- an acknowledgement comes: one of another connection is passed over
  abbrev pub reply_came : Acknowledgement → Line M → Line M
  reply_came a w =
      cond (a.connection == w.receiver.connection)
      (sends (acknowledged_to a.last w.sending) w.sent (newly_sent w.sending (acknowledged_to a.last w.sending)) w)
      w

  abbrev pub if_some : {A : Type 0} → (A → Line M → Line M) → Option A → Line M → Line M
  if_some f None w = w
  if_some f (Some x) w = f x w

  abbrev pub happens : Event M → Line M → Line M
  happens (Push m) w = cond (has_number w.sending) (sends (pushed w.sending) (w.sent ++ m ∷ []) (newly_sent w.sending (pushed w.sending)) w) w
  happens Tick w = sends w.sending w.sent (under_way w.sending) w
  happens (Packet_comes k) w = if_some packet_came (slice_get w.packets k) w
  happens (Reply_comes k) w = if_some reply_came (slice_get w.replies k) w
  happens (Stray_packet p) w = cond (p.connection == w.receiver.connection) w (packet_came p w)
  happens (Stray_reply a) w = cond (a.connection == w.receiver.connection) w (reply_came a w)

  -- a whole run
  unfoldable pub run : List (Event M) → Line M → Line M
  run [] w = w
  run (e ∷ es) w = run es (happens e w)

  -- WHAT HOLDS ALWAYS
  pub record InOrder (c : ℕ) (w : Line M) : Type 0 where
    -- what was taken is a first part of what was sent, and so it is in order, and each once
    pub first_part : w.got ≡ take (length w.got) w.sent
    pub no_more : length w.got ≤ length w.sent
    pub last : w.receiver ≡ record { connection = c; last = length w.got }
    -- the end that sends has counted its messages, and each has a number of 32 bits
    pub total : w.sending.total ≡ length w.sent
    pub numbers : length w.sent ≤ 4294967295
    -- no acknowledgement says more than was taken, and nothing counts as acknowledged that was not taken
    pub replies : (a : Acknowledgement) → a ∈ w.replies → (a.connection ≡ c) × (a.last ≤ length w.got)
    pub acknowledged : w.sending.acknowledged ≤ length w.got
    -- what is sent under a number is the message of that number
    pub genuine : (p : Packet M) → p ∈ w.packets → (p.connection ≡ c) × (n : ℕ) × (p.number ≡ suc n) × (slice_get w.sent n ≡ Some p.message)
    -- nothing was ever sent that is more than 16 above what is acknowledged
    pub few : (p : Packet M) → p ∈ w.packets → p.number ≤ w.sending.acknowledged + 16
    -- and up to the last number that was sent nothing was left out
    pub all_sent : (n : ℕ) (m : M) → n < last_sent w.sending → slice_get w.sent n ≡ Some m → record { connection = c; number = suc n; message = m } ∈ w.packets

  -- WHAT STAYS: in a later state nothing is gone, and nothing is another
  pub record Lasting (w v : Line M) : Type 0 where
    pub sent : Grows w.sent v.sent
    pub packets : Grows w.packets v.packets
    pub got : Grows w.got v.got
    pub replies : Grows w.replies v.replies
    pub acknowledged : w.sending.acknowledged ≤ v.sending.acknowledged

  -- A ROUND: a tick, its packets come in order, and the answer to the last of them comes. Before each of these anything else may happen.

  -- so many packets come, from that place on
  unfoldable pub all_come : (ℕ → List (Event M)) → ℕ → ℕ → Line M → Line M
  all_come others first zero w = w
  all_come others first (suc n) w = all_come others (suc first) n (happens (Packet_comes first) (run (others first) w))

  abbrev pub ticked : (ℕ → List (Event M)) → Line M → Line M
  ticked others w = all_come others (length w.packets) (under_way w.sending).count (happens Tick w)

  -- the last answer comes
  abbrev pub replied : List (Event M) → Line M → Line M
  replied others w = happens (Reply_comes (length w.replies - 1)) (run others w)

  abbrev pub round : Others M → Line M → Line M
  round o w = replied o.before_answer (ticked o.before_packet (run o.before_tick w))

  unfoldable pub after_rounds : List (Others M) → Line M → Line M
  after_rounds [] w = w
  after_rounds (o ∷ os) w = after_rounds os (round o w)

  -- all that there was to send in w is across in v
  pub record Across (w v : Line M) : Type 0 where
    pub got : Grows w.sent v.got
    pub acknowledged : length w.sent ≤ v.sending.acknowledged

-- THE THEOREM, for messages of any type
pub record Numbered (M : Type 0) : Type 0 where
  pub in_order : (c : ℕ) (es : List (Event M)) → InOrder c (run es (opened c))
  pub lasting : (w : Line M) (es : List (Event M)) → Lasting w (run es w)
  -- what is sent under a number is never another, however much later
  pub never_another : (c : ℕ) (es fs : List (Event M)) (p q : Packet M) → p ∈ (run es (opened c)).packets → q ∈ (run fs (run es (opened c))).packets →
      p.number ≡ q.number → p ≡ q
  -- the next packet of the connection is taken; any other is refused, and leaves the end that takes as it was
  pub next_taken : (w : Line M) (p : Packet M) → p.connection ≡ w.receiver.connection → p.number ≡ suc w.receiver.last → (packet_came p w).got ≡ w.got ++ p.message ∷ []
  pub others_refused : (w : Line M) (p : Packet M) → (p.connection ≡ w.receiver.connection → p.number ≡ suc w.receiver.last → ⊥) →
      ((packet_came p w).got ≡ w.got) × ((packet_came p w).receiver ≡ w.receiver)
  -- with no tick each message goes once, in order
  pub once : (c : ℕ) (es : List (Event M)) → (Tick ∈ es → ⊥) →
      (run es (opened c)).packets ≡ numbered c 1 (take (last_sent (run es (opened c)).sending) (run es (opened c)).sent)
  -- whatever has happened before, and whatever else happens, each round brings 16 messages more across, or all
  pub across : (c : ℕ) (es : List (Event M)) (os : List (Others M)) →
      length (run es (opened c)).sent ≤ (run es (opened c)).sending.acknowledged + length os * 16 →
      Across (run es (opened c)) (after_rounds os (run es (opened c)))
