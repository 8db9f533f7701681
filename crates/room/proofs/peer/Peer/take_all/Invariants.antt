use Rattle.std.proofs.Common.{◌≡◌, deque_len}
use Rattle.room.specs.Scenes.{stage, taking_all}
use Rattle.room.proofs.peer.Peer.take_all.Given as goal

abbrev pub invariant-loop-message : goal.invariant-loop-message
invariant-loop-message l = taking_all (stage l.host l.self) ≡ taking_all (stage l.initial.host l.initial.self)

abbrev pub decreases-loop-message : goal.decreases-loop-message
decreases-loop-message l = deque_len l.self.queue
