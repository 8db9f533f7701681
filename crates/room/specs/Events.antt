-- What is printed of the events.
use Rattle.std.specs.Prelude.{ℕ, List, ◌++◌, codes}
use Rattle.std.specs.Fmt.{decimal}
use Rattle.room.specs.declared.event.Event.{Event}
use Rattle.room.specs.declared.event.Event.TheVariants.{Nothing, Refused, Lost}
use Rattle.room.specs.Refusals.{number_of}

abbrev pub printed : Event → List ℕ
printed Nothing = codes "nothing"
printed (Refused e) = codes "refused " ++ decimal (number_of e)
printed (Lost i n) = decimal i ++ codes ": lost " ++ decimal n
