use Rattle.std.proofs.Common.{◌≡◌}
use Rattle.room.specs.Scenes.{acting, with_each}
use Rattle.room.proofs.Rooms.{gathered}
use Rattle.room.proofs.room.Room.ask_all.Given as goal

abbrev pub invariant-loop-peer : goal.invariant-loop-peer
invariant-loop-peer l = gathered l.host l.peer-items ≡ with_each l.peer-index (acting l.action) (gathered l.initial.host l.initial.peer-items)
