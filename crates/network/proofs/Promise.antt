-- The promise of one record, for every kind of operations that keeps the laws.
use Rattle.operation.specs.Laws.{Kind, Laws}
use Rattle.network.specs.OneRecord.{OneRecord, UnbrokenRecord}
use Rattle.network.proofs.Convergence.{convergence, at_most_once}
use Rattle.network.proofs.History.{texts_are, history_grows, taken_was_performed}
use Rattle.network.proofs.CanQuiesce.{can_quiesce}
use Rattle.network.proofs.PairwiseOrder.{pairwise_order}
use Rattle.network.proofs.Meant.{only_if_typed, until_struck}
use Rattle.network.proofs.NeverBack.{stands_until_struck, typed_was_put, at_once, never_back}
use Rattle.network.proofs.Unbroken.{unbroken}

module _ {A : Type 0} (k : Kind A) (l : Laws k) where
  pub one_record : OneRecord k
  one_record = record {
    texts_are = texts_are k l;
    history_grows = history_grows k l;
    convergence = convergence k l;
    can_quiesce = can_quiesce k l;
    pairwise_order = pairwise_order k l;
    once = at_most_once k l;
    only_if_typed = only_if_typed k l;
    until_struck = until_struck k l;
    stands_until_struck = stands_until_struck k l (only_if_typed k l) (until_struck k l);
    typed_was_put = typed_was_put k l;
    at_once = at_once k l (only_if_typed k l) (until_struck k l);
    never_back = never_back k l (only_if_typed k l) (until_struck k l);
    taken_was_performed = taken_was_performed k l;
  }

  pub unbroken_record : UnbrokenRecord k
  unbroken_record = unbroken k l (convergence k l) (can_quiesce k l) one_record.never_back (taken_was_performed k l)
