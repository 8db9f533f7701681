-- What comes of what happens at an end of a line, in numbers.
use Rattle.std.specs.Prelude.{◌≡◌, ℕ, Some, None, Option, List, [], ◌∷◌}
use Rattle.link.specs.declared.refusal.Refusal.{Refusal}
use Rattle.link.specs.declared.window.Numbers.{Numbers}
use Rattle.link.specs.Letters.{over}
use Rattle.link.specs.Refusals.{number_of}
use Rattle.measured.specs.declared.datagram_row.DatagramRow.{DatagramRow}
use Rattle.measured.specs.declared.event.Event.{Event}
use Rattle.measured.specs.declared.event.Outcome.{Outcome}
use Rattle.measured.specs.Datagrams.{bare_row}

abbrev pub answered : ℕ → Outcome
answered k = record { answer = k; after = 0; count = 0; datagram = bare_row 0 0 0 }

abbrev pub refused : Refusal → Outcome
refused e = record (answered 3) { after = number_of e }

-- these messages are sent
abbrev pub numbered : ℕ → Numbers → Outcome
numbered k n = record (answered k) { after = n.after; count = n.count }

abbrev pub numbered_if_any : Option Numbers → Outcome
numbered_if_any None = answered 0
numbered_if_any (Some n) = numbered 1 n

abbrev pub shown : DatagramRow → Outcome
shown d = record (answered 1) { datagram = d }

-- one event after the other: an end in a state, an event, what comes of it, and the state after it
unfoldable pub Plays : {S : Type 0} → (S → Event → Outcome → S → Type 0) → S → List Event → List Outcome → Type 0
Plays Step s [] [] = Unit {0}
Plays Step s (e ∷ es) (o ∷ os) = (t : _) × Step s e o t × Plays Step t es os
Plays Step s [] (o ∷ os) = ⊥
Plays Step s (e ∷ es) [] = ⊥

-- all are played, and what comes of them stands at the front
pub record Played {S : Type 0} (Step : S → Event → Outcome → S → Type 0) (start : S) (events : List Event) (was now : List Outcome) : Type 0 where
  pub outcomes : List Outcome
  pub plays : Plays Step start events outcomes
  pub front : now ≡ over outcomes was
