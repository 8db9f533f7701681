-- The numbers of a connection, at the end that sends and at the end that takes.
use Rattle.std.specs.Prelude.{ℕ, ◌+◌, ◌-◌, min, Bool, ◌&&◌, Ok, Err, Result, if◌then◌else◌, nat_lt, nat_le, ◌==◌}
use Rattle.link.specs.declared.datagram.Acknowledgement.{Acknowledgement}
use Rattle.link.specs.declared.refusal.Refusal.{Refusal}
use Rattle.link.specs.declared.refusal.Refusal.TheVariants.{OtherConnection, NotNext}
use Rattle.link.specs.declared.receiver.Receiver.{Receiver}
use Rattle.link.specs.declared.window.Numbers.{Numbers}

-- THE END THAT SENDS: how many messages there were to send so far, and how many of them are acknowledged
pub record Sending : Type 0 where
  pub acknowledged : ℕ
  pub total : ℕ

abbrev pub nothing_sent : Sending
nothing_sent = record { acknowledged = 0; total = 0 }

-- at most 16 that are not acknowledged are under way: the last number that was sent
abbrev pub window : ℕ
window = 16

abbrev pub last_sent : Sending → ℕ
last_sent s = min s.total (s.acknowledged + window)

-- a number is left for one message more: they have 32 bits
abbrev pub has_number : Sending → Bool
has_number s = nat_lt s.total 4294967295

abbrev pub pushed : Sending → Sending
pushed s = if has_number s then record { acknowledged = s.acknowledged; total = s.total + 1 } else s

-- what says nothing new, or was not sent, is ignored
abbrev pub acknowledged_to : ℕ → Sending → Sending
acknowledged_to n s = if nat_lt s.acknowledged n && nat_le n (last_sent s) then record { acknowledged = n; total = s.total } else s

-- the numbers above one and up to another
abbrev pub up_to : ℕ → ℕ → Numbers
up_to after last = record { after = after; count = last - after }

-- what goes out because of a step, and what is sent again at a tick
abbrev pub newly_sent : Sending → Sending → Numbers
newly_sent was now = up_to (last_sent was) (last_sent now)

abbrev pub under_way : Sending → Numbers
under_way s = up_to s.acknowledged (last_sent s)

-- THE END THAT TAKES: each number once, one above the last
abbrev pub nothing_taken : ℕ → Receiver
nothing_taken c = record { connection = c; last = 0 }

abbrev pub taken : ℕ → ℕ → Receiver → Result Receiver Refusal
taken c n r =
    if c == r.connection
    then (if n == r.last + 1 then Ok (record { connection = c; last = n }) else Err NotNext)
    else Err OtherConnection

abbrev pub acknowledgement_of : Receiver → Acknowledgement
acknowledgement_of r = record { connection = r.connection; last = r.last }
