use Rattle.std.proofs.Common.{arith}
use Rattle.std.proofs.lemmas.List.{nil_from_length}
use Rattle.room.specs.Scenes.{taking_until}
use Rattle.room.proofs.peer.Peer.take.Goals as goal

pub returns : goal.returns
unfolding taking_until
returns c = grind (arith, nil_from_length)
