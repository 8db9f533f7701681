use Rattle.std.proofs.Common.{◌≡◌, map, take, vec_items}
use Rattle.room.specs.Scenes.{peer_of, opening}
use Rattle.room.proofs.room.Room.new.Given as goal

abbrev pub invariant-loop-site : goal.invariant-loop-site
invariant-loop-site l = map peer_of (vec_items l.peers) ≡ take l.site opening.peers
