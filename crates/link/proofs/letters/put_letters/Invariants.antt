use Rattle.std.proofs.Common.{◌≡◌, ◌*◌, ◌++◌, take}
use Rattle.text.specs.Texts.{paired}
use Rattle.link.specs.Letters.{spelled_letters}
use Rattle.link.proofs.letters.put_letters.Given as goal

abbrev pub invariant-loop-i : goal.invariant-loop-i
invariant-loop-i l = l.out.items ≡ l.fn.out.items ++ spelled_letters (take (l.i * 16) (paired l.letters l.sites))
