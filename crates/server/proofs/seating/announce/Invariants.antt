use Rattle.server.proofs.Told.{Told}
use Rattle.server.proofs.seating.announce.Given as goal

abbrev pub invariant-loop-i : goal.invariant-loop-i
invariant-loop-i l = Told l.from l.entry l.initial.sessions l.sessions l.i
