use Rattle.std.proofs.Common.{arith}
use Rattle.measured.specs.ServerEnds.{ServerStep}
use Rattle.measured.proofs.Outcomes.{so_far_more, played_all}
use Rattle.measured.proofs.server_end.play.Goals as goal

pub loop-i-preserved : goal.loop-i-preserved
loop-i-preserved c = so_far_more ServerStep c.loop-i.invariant _ c.in_ok-outcomes.field-0 _ (omega arith) (omega arith) c.in_ok-outcomes.ensures

pub returns : goal.returns
returns c = played_all ServerStep c.loop-i.invariant (omega arith) (omega arith)
