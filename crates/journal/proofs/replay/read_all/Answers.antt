use Rattle.journal.specs.Openings.{contents_in}
use Rattle.journal.proofs.PartRead.{nothing_read}
use Rattle.journal.proofs.replay.read_all.Goals as goal

-- src/replay.rt:94:5
pub loop-init : goal.loop-init
loop-init g c =
    let r = c.in_ok-rewind.ensures in
    (nothing_read (g.S.Store.bytes c.rewind.new.self) c.args.buffer.now (contents_in c.args.recovered.now) r.bytes c.requires.empty, c.requires.room, r.all, r.synced)
