use Rattle.operation.proofs.Singles.{laws}
use Rattle.operation.proofs.Through.{tp1_through}
use Rattle.operation.proofs.theorems.tp1_holds_through_lists.Goals as goal

pub returns : goal.returns
returns g c = tp1_through _ (laws _)
