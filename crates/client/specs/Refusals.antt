-- The numbers of the refusals.
use Rattle.std.specs.Prelude.{ℕ}
use Rattle.client.specs.declared.refusal.Refusal.{Refusal}
use Rattle.client.specs.declared.refusal.Refusal.TheVariants.{BadLetter, BeyondText, PendingFull, NotNext, TextFull}

abbrev pub number_of : Refusal → ℕ
number_of BadLetter = 1
number_of BeyondText = 3
number_of PendingFull = 4
number_of NotNext = 6
number_of TextFull = 7
