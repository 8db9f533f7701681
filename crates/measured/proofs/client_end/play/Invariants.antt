use Rattle.link.specs.Connections.{asking_above}
use Rattle.measured.specs.ClientEnds.{ClientStep}
use Rattle.measured.proofs.Outcomes.{SoFar}
use Rattle.measured.proofs.client_end.play.Given as goal

abbrev pub invariant-loop-i : goal.invariant-loop-i
invariant-loop-i l = SoFar ClientStep (asking_above l.highest) l.events l.initial.outcomes l.i l.outcomes l.end
