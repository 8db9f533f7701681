use Rattle.std.proofs.Common.{◌≡◌, deque_len}
use Rattle.room.specs.Scenes.{stage, taking}
use Rattle.room.proofs.peer.Peer.take.Given as goal

abbrev pub invariant-loop-message : goal.invariant-loop-message
invariant-loop-message l = taking (stage l.host l.self) ≡ taking (stage l.initial.host l.initial.self)

abbrev pub decreases-loop-message : goal.decreases-loop-message
decreases-loop-message l = deque_len l.self.queue
