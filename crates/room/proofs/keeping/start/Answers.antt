use Rattle.std.proofs.Common.{subst}
use Rattle.journal.specs.Openings.{NotOpens}
use Rattle.room.proofs.keeping.start.Goals as goal

pub out_of_memory_opening-requires : goal.out_of_memory_opening-requires
out_of_memory_opening-requires c = λ n why is. c.requires c.open.new.self n why (subst (λ e. NotOpens e c.args.journal.now c.open.new.self) is c.in-Err.ensures.failed)
