use Rattle.std.proofs.Common.{sym, ◌∙◌}
use Rattle.link.proofs.Pairs.{said_spelled}
use Rattle.link.proofs.writing.write_text.Goals as goal

pub text_bytes-requires : goal.text_bytes-requires
text_bytes-requires c = said_spelled c.args.text.site c.args.text.letters.now c.args.text.sites.now (sym c.can_be_sent.ensures ∙ c.if-not-can_be_sent.false)
