use Rattle.journal.proofs.Tellings.{told_more}
use Rattle.journal.proofs.disk.Disk.note.Goals as goal

-- src/disk.rt:59:5
pub returns : goal.returns
returns c = rw c.and-self.ensures (told_more c.args.self.now.calls.items (c.args.kind, c.args.number))
