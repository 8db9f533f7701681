use Rattle.std.proofs.Common.{◌≡◌, ◌&&◌, nat_le, take}
use Rattle.std.specs.List.{list_all}
use Rattle.link.specs.Letters.{is_number}
use Rattle.link.proofs.letters.are_numbers.Given as goal

abbrev pub invariant-loop-number : goal.invariant-loop-number
invariant-loop-number l = (nat_le 1 l.least && nat_le l.most 1114111) ≡ list_all is_number (take l.number-index l.numbers)
