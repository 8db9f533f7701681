use Rattle.link.proofs.InOrder.{good_opened, good_run}
use Rattle.link.proofs.Lasting.{lasts_run}
use Rattle.link.proofs.Once.{once_run}
use Rattle.link.proofs.OneNumber.{never_another}
use Rattle.link.proofs.Taking.{next_taken, others_refused}
use Rattle.link.proofs.Rounds.{across}
use Rattle.link.specs.Deliveries.{opened, run}
use Rattle.link.proofs.theorems.numbers_hold.Goals as goal

pub returns : goal.returns
returns g c = record {
  in_order = λ c es. (good_run c es (opened c) (good_opened c)).in_order;
  lasting = lasts_run;
  never_another = never_another;
  next_taken = next_taken;
  others_refused = others_refused;
  once = once_run;
  across = λ c es os. across c os (run es (opened c)) (good_run c es (opened c) (good_opened c));
}
