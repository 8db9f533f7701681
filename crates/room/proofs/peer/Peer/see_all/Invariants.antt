use Rattle.std.proofs.Common.{◌≡◌}
use Rattle.room.specs.Scenes.{stage, seeing_all}
use Rattle.room.proofs.Seeings.{unseen}
use Rattle.room.proofs.peer.Peer.see_all.Given as goal

abbrev pub invariant-loop-entry : goal.invariant-loop-entry
invariant-loop-entry l = seeing_all (stage l.host l.self) ≡ seeing_all (stage l.initial.host l.initial.self)

abbrev pub decreases-loop-entry : goal.decreases-loop-entry
decreases-loop-entry l = unseen (stage l.host l.self)
