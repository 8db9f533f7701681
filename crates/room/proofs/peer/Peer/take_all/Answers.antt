use Rattle.std.proofs.Common.{arith}
use Rattle.std.proofs.lemmas.List.{nil_from_length}
use Rattle.room.specs.Scenes.{taking_until}
use Rattle.room.proofs.peer.Peer.take_all.Goals as goal

pub returns-in_default : goal.returns-in_default
unfolding taking_until
returns-in_default c = grind (arith, nil_from_length)
