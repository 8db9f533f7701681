use Rattle.std.proofs.Common.{◌<◌, ◌/◌, length, refl, arith}
use Rattle.link.proofs.FiveBytes.{length_by_fives}
use Rattle.link.proofs.BlockLetters.{block_written, rest_written}
use Rattle.link.proofs.letters.Letters.copy_to.Goals as goal

pub loop-i-init : goal.loop-i-init
loop-i-init c = record { count = omega (arith, length_by_fives c.args.self.bytes.now, length_by_fives c.as_chunks.result.1.now, c.as_chunks.ensures.front_len, c.as_chunks.ensures.back_len); numbers = refl; authors = refl }

pub loop-i-preserved : goal.loop-i-preserved
loop-i-preserved c =
    let bytes = c.args.self.bytes.now in
    let i = c.loop-i.i in
    let blocks = c.as_chunks.ensures.front in
    let lt : i < length bytes / 80 = omega (arith, c.as_chunks.ensures.front_len, c.loop-i-test.true) in
    record {
      count = c.loop-i.invariant.count;
      numbers = block_written (λ x. x.number) bytes c.args.letters.now c.loop-i.letters c.take_block.new.letters i blocks lt c.loop-i.invariant.numbers c.take_block.ensures.letters;
      authors = block_written (λ x. x.site) bytes c.args.sites.now c.loop-i.sites c.take_block.new.sites i blocks lt c.loop-i.invariant.authors c.take_block.ensures.sites;
    }

pub returns-clause-letters : goal.returns-clause-letters
returns-clause-letters c =
    rest_written (λ x. x.number) c.args.self.bytes.now c.as_chunks.result.1.now c.args.letters.now c.loop-i.letters c.take_one_by_one.new.letters c.loop-i.i (length c.as_chunks.result.0.now)
    c.as_chunks.ensures.front_len c.as_chunks.ensures.back (omega arith) c.loop-i.invariant.numbers c.take_one_by_one.ensures.letters

pub returns-clause-sites : goal.returns-clause-sites
returns-clause-sites c =
    rest_written (λ x. x.site) c.args.self.bytes.now c.as_chunks.result.1.now c.args.sites.now c.loop-i.sites c.take_one_by_one.new.sites c.loop-i.i (length c.as_chunks.result.0.now)
    c.as_chunks.ensures.front_len c.as_chunks.ensures.back (omega arith) c.loop-i.invariant.authors c.take_one_by_one.ensures.sites
