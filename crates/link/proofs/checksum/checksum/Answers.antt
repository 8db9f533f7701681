use Rattle.std.proofs.Common.{arith}
use Rattle.link.proofs.Sums.{sum_more, sum_rest}
use Rattle.link.proofs.checksum.checksum.Goals as goal

pub loop-block-preserved : goal.loop-block-preserved
loop-block-preserved c =
    rw c.block_sum-sum.ensures
    (sum_more c.args.bytes.now c.as_chunks.result.0.now c.loop-block.block-index c.loop-block.sum c.as_chunks.ensures.front (omega (arith, c.as_chunks.ensures.front_len, c.loop-block-test.true)) c.loop-block.invariant)

pub returns : goal.returns
returns c =
    rw c.block_sum.ensures
    (sum_rest c.args.bytes.now c.as_chunks.result.1.now c.loop-block.block-index c.loop-block.sum (omega (arith, c.as_chunks.ensures.front_len, c.loop-block-test.false)) c.as_chunks.ensures.back c.loop-block.invariant)
