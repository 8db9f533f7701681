use Rattle.std.proofs.Common.{arith}
use Rattle.link.proofs.FiveBytes.{length_by_fives}
use Rattle.link.proofs.Chunks.{written_more, written_all}
use Rattle.link.proofs.letters.take_one_by_one.Goals as goal

pub bounds-letters-i : goal.bounds-letters-i
bounds-letters-i c = omega (arith, length_by_fives c.args.bytes.now, c.as_chunks.ensures.front_len)

pub bounds-sites-i : goal.bounds-sites-i
bounds-sites-i c = omega (arith, length_by_fives c.args.bytes.now, c.as_chunks.ensures.front_len)

pub loop-i-preserved : goal.loop-i-preserved
loop-i-preserved c =
    let bytes = c.args.bytes.now in
    let chunks = c.as_chunks.result.0.now in
    let i = c.loop-i.i in
    let front = c.as_chunks.ensures.front in
    let count = length_by_fives bytes in
    record {
      numbers = rw c.from_be_bytes.ensures (written_more (λ x. x.number) bytes chunks i c.args.letters.now c.loop-i.letters front c.loop-i-test.true (omega arith) c.loop-i.invariant.numbers);
      authors = written_more (λ x. x.site) bytes chunks i c.args.sites.now c.loop-i.sites front c.loop-i-test.true (omega arith) c.loop-i.invariant.authors;
    }

pub returns-clause-letters : goal.returns-clause-letters
returns-clause-letters c = written_all (λ x. x.number) c.args.bytes.now c.as_chunks.result.0.now c.loop-i.i c.args.letters.now c.loop-i.letters c.as_chunks.ensures.front (omega arith) c.loop-i.invariant.numbers

pub returns-clause-sites : goal.returns-clause-sites
returns-clause-sites c = written_all (λ x. x.site) c.args.bytes.now c.as_chunks.result.0.now c.loop-i.i c.args.sites.now c.loop-i.sites c.as_chunks.ensures.front (omega arith) c.loop-i.invariant.authors
