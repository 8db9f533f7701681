use Rattle.std.proofs.Common.{◌≡◌}
use Rattle.link.proofs.Chunks.{passes}
use Rattle.link.proofs.letters.are_letters_by_one.Given as goal

abbrev pub invariant-loop-a : goal.invariant-loop-a
invariant-loop-a l = l.is_good ≡ passes l.bytes l.a-index
