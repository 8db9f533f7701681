use Rattle.std.proofs.Common.{◌≡◌, take, string_bytes}
use Rattle.script.specs.Shown.{text_shown}
use Rattle.script.proofs.show.show.Given as goal

abbrev pub invariant-loop-letter : goal.invariant-loop-letter
invariant-loop-letter l = string_bytes l.out ≡ text_shown (take l.letter-index l.letters)
