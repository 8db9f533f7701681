use Rattle.std.proofs.Common.{arith}
use Rattle.text.proofs.Moves.{moved_up}
use Rattle.text.proofs.gap.shift_up.Goals as goal

pub returns : goal.returns
returns g c = moved_up c.args.part.now c.copy_within.new.self c.args.x _ c.requires (omega arith) c.copy_within.ensures.after
