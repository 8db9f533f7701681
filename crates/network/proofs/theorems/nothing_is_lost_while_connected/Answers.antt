use Rattle.operation.proofs.Singles.{laws}
use Rattle.network.proofs.Writing.{written_laws}
use Rattle.network.proofs.Promise.{unbroken_record}
use Rattle.network.proofs.theorems.nothing_is_lost_while_connected.Goals as goal

pub returns-clause-single : goal.returns-clause-single
returns-clause-single g c = unbroken_record _ (laws _)

pub returns-clause-signed : goal.returns-clause-signed
returns-clause-signed g c = unbroken_record _ (written_laws _)
