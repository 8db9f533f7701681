use Rattle.std.proofs.Common.{◌≡◌, sym, subst}
use Rattle.text.specs.Texts.{paired}
use Rattle.link.specs.Letters.{spelled_letters}
use Rattle.link.proofs.BlockBytes.{block_bytes, block_spelled}
use Rattle.link.proofs.blocks.spell_block.Goals as goal

pub returns : goal.returns
returns c =
    subst (λ letters. block_bytes letters c.args.sites.now ≡ spelled_letters (paired c.args.letters.now c.args.sites.now)) (sym c.as_slice.ensures)
    (block_spelled c.args.letters.now c.args.sites.now c.told-letters c.told-sites c.fits-letters)
