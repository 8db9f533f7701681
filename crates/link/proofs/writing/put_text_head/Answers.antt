use Rattle.std.proofs.Common.{arith}
use Rattle.std.proofs.lemmas.Grind.{common_steps}
use Rattle.link.proofs.writing.put_text_head.Goals as goal

pub returns : goal.returns
returns c = grind (arith, common_steps)
