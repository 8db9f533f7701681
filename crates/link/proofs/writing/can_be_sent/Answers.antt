use Rattle.std.proofs.Common.{◌∙◌, le-leb}
use Rattle.link.proofs.Pairs.{can_be_said}
use Rattle.link.proofs.writing.can_be_sent.Goals as goal

pub returns-then-text-le-HIGHEST_SITE : goal.returns-then-text-le-HIGHEST_SITE
returns-then-text-le-HIGHEST_SITE c =
    c.are_letters_of_text.ensures ∙ can_be_said c.args.text.site c.args.text.letters.now c.args.text.sites.now (le-leb _ _ c.if-text-le-HIGHEST_SITE.true)
