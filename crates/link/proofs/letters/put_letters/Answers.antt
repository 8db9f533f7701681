use Rattle.std.proofs.Common.{◌∙◌, ap, arith, subst, ◌≡◌, ◌++◌}
use Rattle.std.specs.Prelude.{OnOk}
use Rattle.link.proofs.Pairs.{spellable}
use Rattle.link.proofs.BlockBytes.{block_more, block_rest}
use Rattle.link.proofs.letters.put_letters.Goals as goal

pub bounds-site_blocks-i : goal.bounds-site_blocks-i
bounds-site_blocks-i c = omega (arith, c.as_chunks.ensures.front_len, c.as_chunks-2.ensures.front_len, (spellable c.args.letters.now c.args.sites.now c.requires).same)

pub loop-i-preserved : goal.loop-i-preserved
loop-i-preserved c =
    let same = (spellable c.args.letters.now c.args.sites.now c.requires).same in
    c.in_ok-extend_from_slice.ensures.items
    ∙ ap (λ bytes. c.loop-i.out.items ++ bytes) c.spell_block.ensures
    ∙ block_more c.args.letters.now c.args.sites.now c.args.out.now.items c.loop-i.out.items c.loop-i.i same c.as_chunks.ensures.front c.as_chunks-2.ensures.front
    (omega (arith, c.as_chunks.ensures.front_len, c.loop-i-test.true)) c.loop-i.invariant

pub returns : goal.returns
returns c =
    let same = (spellable c.args.letters.now c.args.sites.now c.requires).same in
    let whole = block_rest c.args.letters.now c.args.sites.now c.args.out.now.items c.loop-i.out.items c.loop-i.i same
    (omega (arith, c.as_chunks.ensures.front_len, c.loop-i-test.false)) c.as_chunks.ensures.back c.as_chunks-2.ensures.back c.loop-i.invariant in
    subst (λ bytes. OnOk c.put_one_by_one.result (c.put_one_by_one.new.out.items ≡ bytes)) whole c.put_one_by_one.ensures
