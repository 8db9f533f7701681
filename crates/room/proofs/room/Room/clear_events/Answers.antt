use Rattle.std.proofs.Common.{rules, sym, subst}
use Rattle.room.specs.Reached.{Reached}
use Rattle.room.proofs.ShownOpening.{reached_told}
use Rattle.room.proofs.room.Room.clear_events.Goals as goal

pub returns-clause-reached : goal.returns-clause-reached
returns-clause-reached c = λ a. subst Reached (sym (search rules)) (reached_told a)
