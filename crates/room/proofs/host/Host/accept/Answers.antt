use Rattle.room.proofs.Kept.{entry_taken, entry_fits, follows_entry}
use Rattle.server.specs.Servers.{state_of}
use Rattle.room.proofs.host.Host.accept.Goals as goal

pub keep-requires : goal.keep-requires
keep-requires c =
    let h = c.args.self.now in
    let m = c.in-Operation.submission in
    let e = c.in_ok-entry-in-Operation.entry in
    let t = entry_taken h.server c.take.new.self m e h.space c.in_ok-entry-in-Operation.ensures.outcome in
    entry_fits h.server h.journal h.kept m e t.0

pub invariant_of-self-in-Operation : goal.invariant_of-self-in-Operation
invariant_of-self-in-Operation c =
    let h = c.args.self.now in
    let m = c.in-Operation.submission in
    let e = c.in_ok-entry-in-Operation.entry in
    let t = entry_taken h.server c.take.new.self m e h.space c.in_ok-entry-in-Operation.ensures.outcome in
    record { space = t.2; kept = follows_entry h.server h.journal h.kept m e t.0 c.keep.result c.keep.new.journal (state_of c.take.new.self) t.1 c.keep.ensures.kept c.keep.ensures.failed }
