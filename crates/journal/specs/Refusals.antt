-- The numbers of the refusals.
use Rattle.std.specs.Prelude.{ℕ}
use Rattle.journal.specs.declared.refusal.Refusal.{Refusal}
use Rattle.journal.specs.declared.refusal.Refusal.TheVariants.{Malformed, NotAbove, BeyondText, NotNext, Full}

abbrev pub number_of : Refusal → ℕ
number_of Malformed = 1
number_of NotAbove = 2
number_of BeyondText = 3
number_of NotNext = 6
number_of Full = 7
