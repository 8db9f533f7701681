use Rattle.std.proofs.Common.{length, ◌≡◌, ◌≤◌}
use Rattle.journal.specs.Openings.{contents_in, Reads}
use Rattle.journal.proofs.replay.read_all.Given as goal

abbrev pub invariant-loop : goal.invariant-loop
invariant-loop g l =
    Reads (g.S.Store.bytes l.store) l.buffer l.progress.at l.progress.left (contents_in l.recovered)
    × (15 ≤ length l.buffer)
    × (g.S.Store.all l.store ≡ g.S.Store.all l.fn.store)
    × (g.S.Store.synced l.store ≡ g.S.Store.synced l.fn.store)
