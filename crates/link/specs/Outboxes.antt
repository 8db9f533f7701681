-- The messages of one end that are not acknowledged, in order.
use Rattle.std.specs.Prelude.{ℕ, ◌+◌, ◌-◌, List, [], ◌∷◌, ◌++◌, length, drop, Some, None, Option, if◌then◌else◌, nat_lt, slice_get}
use Rattle.link.specs.declared.window.Numbers.{Numbers}
use Rattle.link.specs.Numbering.{Sending, has_number, newly_sent, acknowledged_to}

-- acknowledged: how many messages were before them
pub record OutboxState (M : Type 0) : Type 0 where
  pub acknowledged : ℕ
  pub waiting : List M

module _ {M : Type 0} where
  abbrev pub empty_outbox : OutboxState M
  empty_outbox = record { acknowledged = 0; waiting = [] }

  abbrev pub sending_of : OutboxState M → Sending
  sending_of o = record { acknowledged = o.acknowledged; total = o.acknowledged + length o.waiting }

  -- with a message more, if a number is left for it; and what may go because of that
  abbrev pub with_message_more : M → OutboxState M → OutboxState M
  with_message_more m o = if has_number (sending_of o) then record { acknowledged = o.acknowledged; waiting = o.waiting ++ m ∷ [] } else o

  abbrev pub sent_now : M → OutboxState M → Option Numbers
  sent_now m o = if has_number (sending_of o) then Some (newly_sent (sending_of o) (sending_of (with_message_more m o))) else None

  -- what is acknowledged goes
  abbrev pub without_first : ℕ → OutboxState M → OutboxState M
  without_first a o = record { acknowledged = a; waiting = drop (a - o.acknowledged) o.waiting }

  abbrev pub without_acknowledged : ℕ → OutboxState M → OutboxState M
  without_acknowledged n o = without_first (acknowledged_to n (sending_of o)).acknowledged o

  -- the message of a number
  abbrev pub message_under : ℕ → OutboxState M → Option M
  message_under n o = if nat_lt o.acknowledged n then slice_get o.waiting (n - o.acknowledged - 1) else None
