use Rattle.link.proofs.Pairs.{spelled_more, spelled_all}
use Rattle.link.proofs.letters.put_one_by_one.Goals as goal

pub loop-i-preserved : goal.loop-i-preserved
loop-i-preserved c =
    rw (c.in_ok-extend_from_slice.ensures.items, c.to_be_bytes.ensures)
    (spelled_more c.args.letters.now c.args.sites.now c.args.out.now.items c.loop-i.out.items c.loop-i.i c.requires c.loop-i-test.true c.loop-i.invariant)

pub returns : goal.returns
returns c = spelled_all c.args.letters.now c.args.sites.now c.args.out.now.items c.loop-i.out.items c.loop-i.i c.requires c.loop-i-test.false c.loop-i.invariant
