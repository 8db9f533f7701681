use Rattle.std.proofs.Common.{arith}
use Rattle.link.proofs.checksum.block_sum.Goals as goal

pub overflow_add-sum : goal.overflow_add-sum
overflow_add-sum c = record { fits = omega (arith, c.loop-byte.invariant.small, c.requires, c.loop-byte-test.true, (c.type_inv.bytes c.loop-byte.byte-index).fits, c.from-sum.ensures) }
