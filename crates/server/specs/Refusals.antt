use Rattle.std.specs.Prelude.{ℕ}
use Rattle.server.specs.declared.refusal.Refusal.{Refusal}
use Rattle.server.specs.declared.refusal.Refusal.TheVariants.{BadLetter, NotConnected, BeyondText, BadRevision, Full, SitesInUse, OutOfMemory}

abbrev pub number_of : Refusal → ℕ
number_of BadLetter = 1
number_of NotConnected = 2
number_of BeyondText = 3
number_of BadRevision = 5
number_of Full = 7
number_of SitesInUse = 8
number_of OutOfMemory = 9
