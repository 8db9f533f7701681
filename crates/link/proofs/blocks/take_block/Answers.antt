use Rattle.link.proofs.BlockLetters.{numbers_taken, sites_taken}
use Rattle.link.proofs.blocks.take_block.Goals as goal

pub returns-clause-letters : goal.returns-clause-letters
returns-clause-letters c =
    numbers_taken c.as_slice.result.now c.args.block.now c.args.letters.now c.as_slice.ensures c.told-block c.fits-block c.requires.letters

pub returns-clause-sites : goal.returns-clause-sites
returns-clause-sites c = sites_taken c.as_slice.result.now c.args.block.now c.args.sites.now c.as_slice.ensures c.told-block c.requires.sites
