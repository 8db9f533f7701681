use Rattle.std.proofs.Common.{arith}
use Rattle.link.proofs.FiveBytes.{length-letters_at}
use Rattle.link.proofs.letters.Letters.is_empty.Goals as goal

pub returns : goal.returns
returns c = grind (arith, length-letters_at c.args.self.bytes.now c.args.self.fit)
