use Rattle.std.proofs.Common.{◌≡◌, ◌*◌, ◌≤◌, sum, take}
use Rattle.link.proofs.checksum.block_sum.Given as goal

abbrev pub invariant-loop-byte : goal.invariant-loop-byte
invariant-loop-byte l = record {
  total : l.sum ≡ sum (take l.byte-index l.bytes);
  small : l.sum ≤ l.byte-index * 255;
}
