use Rattle.operation.proofs.Renaming.{renames}
use Rattle.operation.proofs.theorems.renaming_commutes.Goals as goal

pub returns : goal.returns
returns g c = λ f. renames f
