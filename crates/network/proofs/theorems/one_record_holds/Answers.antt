use Rattle.operation.proofs.Singles.{laws}
use Rattle.network.proofs.Writing.{written_laws}
use Rattle.network.proofs.Promise.{one_record}
use Rattle.network.proofs.theorems.one_record_holds.Goals as goal

pub returns-clause-single : goal.returns-clause-single
returns-clause-single g c = one_record _ (laws _)

pub returns-clause-signed : goal.returns-clause-signed
returns-clause-signed g c = one_record _ (written_laws _)
