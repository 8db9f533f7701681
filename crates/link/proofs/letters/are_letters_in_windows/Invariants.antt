use Rattle.std.proofs.Common.{◌≡◌, ◌*◌, take}
use Rattle.link.specs.Letters.{are_fit, letters_at}
use Rattle.link.proofs.Windows.{pass}
use Rattle.link.proofs.letters.are_letters_in_windows.Given as goal

abbrev pub invariant-loop-i : goal.invariant-loop-i
invariant-loop-i l = pass l.highest l.least ≡ are_fit (take (l.i * 3) (letters_at l.bytes))
