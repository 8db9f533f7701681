use Rattle.std.proofs.Common.{◌≡◌}
use Rattle.operation.specs.Transform.{transformed}
use Rattle.operation.proofs.Passing.{Passing}
use Rattle.client.specs.Pendings.{pendings}
use Rattle.client.proofs.pending.Pending.pass.Given as goal

abbrev pub invariant-loop-i : goal.invariant-loop-i
invariant-loop-i l =
    Passing transformed transformed l.initial.one l.one (pendings l.initial.self) (pendings l.self) l.i
    × (l.self.site ≡ l.initial.self.site)
