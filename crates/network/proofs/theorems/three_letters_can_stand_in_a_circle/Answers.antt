use Rattle.network.proofs.Cyclic.{cyclic_run, no_one_line}
use Rattle.network.proofs.theorems.three_letters_can_stand_in_a_circle.Goals as goal

pub returns-clause-circle : goal.returns-clause-circle
returns-clause-circle c = cyclic_run

pub returns-clause-no_line : goal.returns-clause-no_line
returns-clause-no_line c = no_one_line
