-- A loop over all sessions that tells them of an entry.
use Rattle.std.proofs.Common.{◌≡◌, ℕ, ◌+◌, ◌<◌, ◌≤◌, cond, eqb, ltb, List, length, get_or, set, arith}
use Rattle.std.proofs.lemmas.List.{get_or-map}
use Rattle.std.proofs.lemmas.Bool.Decides.{nat_tests}
use Rattle.operation.specs.declared.entry.Entry.{Entry}
use Rattle.server.specs.declared.session.Session.{Session}
use Rattle.server.specs.Sessions.{Seat, free, told}
use Rattle.server.specs.Seats.{Op, seat_of, seats_in, bounded}
use Rattle.server.proofs.Seats.{seat_past, seat_set}

module _ (from : ℕ) (e : Entry Op) where
  -- what announcing makes of a seat
  abbrev pub announced : ℕ → Seat Op → Seat Op
  announced j s = cond (eqb j from) s (bounded (told e s))

  -- the first i of ss are told, and the others are as they were
  abbrev pub Told : List Session → List Session → ℕ → Type 0
  Told ss ts i = (j : ℕ) → seats_in ts j ≡ cond (ltb j i) (announced j (seats_in ss j)) (seats_in ss j)

  -- one more is written
  pub told_more : (ss ts : List Session) (i : ℕ) (d t : Session) → i < length ts → seat_of t ≡ announced i (seat_of (get_or ts i d)) → Told ss ts i → Told ss (set ts i t) (i + 1)
  told_more ss ts i d t l is told j =
      let here = seat_set ts i t _ l is j in
      let was = get_or-map seat_of ts i d free l in
      grind (arith, nat_tests, here, was, told i, told j)

  pub told_all : (ss ts : List Session) (i : ℕ) → length ss ≤ i → Told ss ts i → (j : ℕ) → seats_in ts j ≡ announced j (seats_in ss j)
  told_all ss ts i l told j = grind (arith, nat_tests, told j, seat_past ss j)
