use Rattle.std.proofs.Common.{sym, ◌∙◌}
use Rattle.link.proofs.FiveBytes.{spelled-letters_at}
use Rattle.link.proofs.letters.Letters.read.Goals as goal

pub invariant_of-result-clause-spelled : goal.invariant_of-result-clause-spelled
invariant_of-result-clause-spelled c =
    sym (spelled-letters_at c.args.bytes.now (λ i. (c.type_inv.bytes i).fits) (sym c.are_whole_letters.ensures ∙ c.if-not-are_whole_letters.false))
