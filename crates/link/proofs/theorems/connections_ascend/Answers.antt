use Rattle.link.proofs.Ascending.{ascends}
use Rattle.link.proofs.theorems.connections_ascend.Goals as goal

pub returns : goal.returns
returns c = ascends
