use Rattle.room.proofs.Cases.{cases_hold}
use Rattle.room.proofs.theorems.cases_hold.Goals as goal

pub returns : goal.returns
returns c = cases_hold
