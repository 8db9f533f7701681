use Rattle.std.proofs.Common.{rules}
use Rattle.std.proofs.lemmas.Result.{on_ok_weaker}
use Rattle.room.specs.Scenes.{room_state}
use Rattle.room.proofs.Settling.{agrees_so}
use Rattle.room.proofs.room.Room.settle.Goals as goal

pub returns-then-any_ended-clause-agree : goal.returns-then-any_ended-clause-agree
returns-then-any_ended-clause-agree c = on_ok_weaker c.round-then-any_ended.result (agrees_so (room_state c.args.self.now) _) (search rules)

pub returns-else-any_ended-clause-agree : goal.returns-else-any_ended-clause-agree
returns-else-any_ended-clause-agree c = agrees_so (room_state c.args.self.now) _ (search rules)
