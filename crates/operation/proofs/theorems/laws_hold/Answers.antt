use Rattle.operation.proofs.Singles.{laws}
use Rattle.operation.proofs.theorems.laws_hold.Goals as goal

pub returns : goal.returns
returns g c = laws _
