use Rattle.text.proofs.Moves.{moved_down}
use Rattle.text.proofs.gap.shift_down.Goals as goal

pub returns : goal.returns
returns g c = moved_down c.args.part.now c.copy_within.new.self c.requires c.copy_within.ensures.after
