use Rattle.journal.proofs.Durability.{durable}
use Rattle.journal.proofs.theorems.records_last.Goals as goal

pub returns : goal.returns
returns c = durable
