use Rattle.std.proofs.Common.{◌≡◌, ◌*◌, ◌%◌, sum, take}
use Rattle.link.proofs.checksum.checksum.Given as goal

abbrev pub invariant-loop-block : goal.invariant-loop-block
invariant-loop-block l = l.sum ≡ sum (take (l.block-index * 64) l.bytes) % 65536
