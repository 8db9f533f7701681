use Rattle.std.proofs.Common.{length, ◌-◌, ◌≡◌, ◌≤◌, Some, take}
use Rattle.journal.specs.Replaying.{behind}
use Rattle.journal.specs.Openings.{contents_in}
use Rattle.journal.proofs.replay.replay.Given as goal

abbrev pub invariant-loop-count : goal.invariant-loop-count
invariant-loop-count l = (l.count ≤ length l.bytes) × (behind (take l.count l.bytes) (contents_in l.initial.recovered) ≡ Some (contents_in l.recovered))

abbrev pub decreases-loop-count : goal.decreases-loop-count
decreases-loop-count l = length l.bytes - l.count
