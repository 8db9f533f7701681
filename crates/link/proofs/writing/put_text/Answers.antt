use Rattle.std.proofs.Common.{arith}
use Rattle.link.proofs.TextLetters.{few_letters}
use Rattle.link.proofs.writing.put_text.Goals as goal

pub overflow_cast-count : goal.overflow_cast-count
overflow_cast-count c = omega (arith, few_letters c.args.snapshot.letters)
