use Rattle.journal.proofs.Exactness.{exact}
use Rattle.journal.proofs.theorems.journals_open.Goals as goal

pub returns : goal.returns
returns c = exact
