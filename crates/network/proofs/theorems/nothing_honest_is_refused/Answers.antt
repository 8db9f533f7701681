use Rattle.operation.proofs.Singles.{laws}
use Rattle.network.proofs.Writing.{written_laws}
use Rattle.network.proofs.NeverRefused.{never_refused}
use Rattle.network.proofs.theorems.nothing_honest_is_refused.Goals as goal

pub returns-clause-single : goal.returns-clause-single
returns-clause-single g c = never_refused _ (laws _)

pub returns-clause-signed : goal.returns-clause-signed
returns-clause-signed g c = never_refused _ (written_laws _)
