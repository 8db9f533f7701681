use Rattle.operation.specs.Transform.{transformed}
use Rattle.operation.proofs.PassingEntries.{PassingEntries}
use Rattle.operation.proofs.transform.transform_through.Given as goal

abbrev pub invariant-loop-entry : goal.invariant-loop-entry
invariant-loop-entry g l = PassingEntries transformed transformed l.initial.one l.one l.initial.list l.list l.entry-index
