-- The numbers of the refusals.
use Rattle.std.specs.Prelude.{ℕ}
use Rattle.link.specs.declared.refusal.Refusal.{Refusal}
use Rattle.link.specs.declared.refusal.Refusal.TheVariants.{Malformed, OtherConnection, NotNext}

abbrev pub number_of : Refusal → ℕ
number_of Malformed = 1
number_of OtherConnection = 2
number_of NotNext = 2
