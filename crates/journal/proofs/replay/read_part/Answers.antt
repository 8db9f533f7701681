use Rattle.std.proofs.Common.{rules}
use Rattle.journal.specs.Openings.{contents_in}
use Rattle.journal.proofs.PartRead.{stuck, more}
use Rattle.journal.proofs.replay.read_part.Goals as goal

-- src/replay.rt:69:17
pub returns-in_err-taken-clause-stuck : goal.returns-in_err-taken-clause-stuck
returns-in_err-taken-clause-stuck g c =
    let h = stuck (g.S.Store.bytes c.args.store.now) (g.S.Store.bytes c.read.new.self) c.args.buffer.now c.read.new.part _ c.args.was.at c.args.was.left c.in_ok-got.got (contents_in c.args.recovered.now) c.requires.reads c.in_ok-got.ensures.bound c.in_ok-got.ensures.bytes (g.S.Store.all c.read.new.self) c.in_err-taken.field-0.0 _ (g.met.S.Store.begins c.read.new.self) c.in_err-taken.ensures.refused in
    search rules

-- src/replay.rt:46:1
pub returns-clause-more : goal.returns-clause-more
returns-clause-more g c =
    more (g.S.Store.bytes c.args.store.now) (g.S.Store.bytes c.read.new.self) c.args.buffer.now c.read.new.part _ c.args.was.at c.args.was.left c.in_ok-got.got (contents_in c.args.recovered.now) c.requires.reads c.in_ok-got.ensures.bound c.in_ok-got.ensures.bytes c.in_ok-taken.taken _ c.in_ok-taken.ensures.within c.in_ok-taken.ensures.taken c.in_ok-taken.ensures.short c.replay.ensures.bytes c.copy_within.new.self c.copy_within.ensures.after c.copy_within.ensures.len
