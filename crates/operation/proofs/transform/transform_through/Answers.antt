use Rattle.std.proofs.Common.{arith}
use Rattle.std.proofs.lemmas.List.{get_or_default}
use Rattle.operation.specs.Entries.{operations}
use Rattle.operation.specs.Transform.{transformed}
use Rattle.operation.proofs.Bounds.{commutes}
use Rattle.operation.proofs.PassingEntries.{entries_none, entries_more, entries_all}
use Rattle.operation.proofs.transform.transform_through.Goals as goal

pub loop-entry-init : goal.loop-entry-init
loop-entry-init g c = entries_none transformed transformed c.args.op c.args.list.now

pub loop-entry-preserved : goal.loop-entry-preserved
loop-entry-preserved g c =
    rw (c.transform-entry.ensures, c.transform-one.ensures)
    (entries_more transformed transformed _ (omega arith) (get_or_default c.loop-entry.list c.loop-entry.entry-index _ _ (omega arith)) c.loop-entry.invariant)

pub returns : goal.returns
returns g c =
    let e = entries_all transformed transformed (omega arith) c.loop-entry.invariant in
    record { one = e.0; others = e.2; tp1 = commutes c.args.op (operations c.args.list.now) _ _ e.0 e.1 }
