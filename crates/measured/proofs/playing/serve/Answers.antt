use Rattle.std.proofs.Common.{arith}
use Rattle.measured.proofs.Running.{taken_row}
use Rattle.measured.proofs.playing.serve.Goals as goal

pub returns : goal.returns
returns c = taken_row c.args.row c.if-row-eq-JOIN.false c.operation.ensures (λ e. grind (arith, e, c.if-eq.ensures)) c.take.ensures.outcome
