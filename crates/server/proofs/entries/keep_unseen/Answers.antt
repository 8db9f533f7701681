use Rattle.std.proofs.Common.{◌∙◌, arith}
use Rattle.std.proofs.lemmas.List.Filters.{FiltersInPlace-all, FiltersInPlace-more_no, FiltersInPlace-more_set}
use Rattle.std.proofs.lemmas.Bool.{le-leb, lt-leb}
use Rattle.std.proofs.lemmas.List.{get_or_default}
use Rattle.server.proofs.Lists.{unseen_is}
use Rattle.server.proofs.entries.keep_unseen.Goals as goal
use Rattle.server.proofs.entries.keep_unseen.Goals.{then-entry-revision, else-entry-revision}

pub loop-i-preserved : goal.loop-i-preserved
loop-i-preserved c =
    let is = get_or_default c.loop-i.list c.loop-i.i _ _ (omega arith) in
    elim c.if-entry-revision.branch [
      | then-entry-revision w ↦ rw (w.list-is, w.count-is) (FiltersInPlace-more_set c.loop-i.invariant (omega arith) (le-leb _ _ w.if-entry-revision.true) is)
      | else-entry-revision w ↦ rw (w.list-is, w.count-is) (FiltersInPlace-more_no c.loop-i.invariant (omega arith) (lt-leb _ _ w.if-entry-revision.false) is)
    ]

pub returns-clause-kept : goal.returns-clause-kept
returns-clause-kept c = FiltersInPlace-all c.loop-i.invariant (omega arith) ∙ unseen_is _ _
