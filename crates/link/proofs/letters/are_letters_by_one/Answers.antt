use Rattle.link.proofs.Chunks.{tested_more, tested_all}
use Rattle.link.proofs.letters.are_letters_by_one.Goals as goal

pub loop-a-preserved : goal.loop-a-preserved
loop-a-preserved c =
    let h = tested_more c.args.bytes.now c.as_chunks.result.0.now c.loop-a.a-index c.loop-a.is_good c.as_chunks.ensures.front c.loop-a-test.true c.loop-a.invariant in
    rw (c.is_letter.ensures, c.from_be_bytes.ensures) h

pub returns : goal.returns
returns c = tested_all c.args.bytes.now c.as_chunks.result.0.now c.loop-a.a-index c.loop-a.is_good c.as_chunks.ensures.front c.loop-a-test.false c.loop-a.invariant
