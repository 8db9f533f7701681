use Rattle.std.proofs.Common.{None}
use Rattle.measured.specs.ServerEnds.{ServerStep}
use Rattle.measured.proofs.Outcomes.{SoFar}
use Rattle.measured.proofs.server_end.play.Given as goal

abbrev pub invariant-loop-i : goal.invariant-loop-i
invariant-loop-i l = SoFar ServerStep None l.events l.initial.outcomes l.i l.outcomes l.end
