use Rattle.std.proofs.Common.{rules}
use Rattle.measured.proofs.server_end.step.Goals as goal

pub returns-in_ok-give-in-5 : goal.returns-in_ok-give-in-5
returns-in_ok-give-in-5 c = record { outcome = search rules; new = c.give.new.end; gives = λ _. c.in_ok-give-in-5.ensures; after = search rules }
