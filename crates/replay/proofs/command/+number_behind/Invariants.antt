use Rattle.std.proofs.Common.{length}
use Rattle.replay.proofs.command.+number_behind.Given as goal

abbrev pub decreases-number_behind : goal.decreases-number_behind
decreases-number_behind l = length l.digits.now
