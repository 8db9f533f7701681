use Rattle.std.proofs.Common.{sym, ap, ◌∙◌}
use Rattle.std.proofs.lemmas.Result.{err_from_is_err_and}
use Rattle.journal.specs.Contents.{why_not}
use Rattle.journal.specs.Openings.{contents_in}
use Rattle.journal.proofs.Opened.{stays, tail_stuck, whole, unsynced_fails}
use Rattle.journal.proofs.opening.settle.Goals as goal

-- src/opening.rt:48:9
pub returns-in-Err-clause-failed : goal.returns-in-Err-clause-failed
returns-in-Err-clause-failed g c =
    let s = g.S.Store in
    let read = c.in_ok-progress.ensures in
    let t = c.in_ok-progress.progress in
    let stuck = tail_stuck (s.bytes c.read_all.new.store) c.read_all.new.buffer t.at t.left (contents_in c.read_all.new.recovered) read.read (s.all c.read_all.new.store) c.in-Err.refusal (g.met.S.Store.whole c.read_all.new.store read.end) (rw (← c.counts.ensures) (sym c.check_tail.ensures ∙ ap why_not c.in-Err.is)) in
    (stuck, stays (s.bytes c.args.store.now) (s.bytes c.read_all.new.store) (s.all c.args.store.now) (s.all c.read_all.new.store) (s.synced c.args.store.now) (s.synced c.read_all.new.store) read.all read.synced)

-- src/opening.rt:53:5
pub returns-in_err-cut_back-clause-failed : goal.returns-in_err-cut_back-clause-failed
returns-in_err-cut_back-clause-failed g c =
    let p = err_from_is_err_and c.from_residual-in_err-cut_back.result c.from_residual-in_err-cut_back.ensures.1 in
    let s = g.S.Store in
    let read = c.in_ok-progress.ensures in
    let t = c.in_ok-progress.progress in
    let can = whole (s.bytes c.read_all.new.store) c.read_all.new.buffer t.at t.left (contents_in c.read_all.new.recovered) read.read (rw (← c.counts.ensures) (sym c.check_tail.ensures ∙ ap why_not c.in_default.is)) in
    rw (p.1, p.2) (unsynced_fails c.in_err-cut_back.field-0.0 (s.bytes c.args.store.now) (s.bytes c.read_all.new.store) (s.bytes c.cut_back.new.store) (s.all c.args.store.now) (s.all c.read_all.new.store) (s.all c.cut_back.new.store)
    (s.synced c.args.store.now) (s.synced c.read_all.new.store) (s.synced c.cut_back.new.store) t.at (contents_in c.read_all.new.recovered)
    read.all read.synced (g.met.S.Store.whole c.read_all.new.store read.end) can c.in_err-cut_back.ensures.all c.in_err-cut_back.ensures.failed)
