-- The numbers of the refusals.
use Rattle.std.specs.Prelude.{ℕ}
use Rattle.text.specs.declared.refusal.Refusal.{Refusal}
use Rattle.text.specs.declared.refusal.Refusal.TheVariants.{BadLetter, BeyondText, TextFull}

abbrev pub number_of : Refusal → ℕ
number_of BadLetter = 1
number_of BeyondText = 3
number_of TextFull = 7
