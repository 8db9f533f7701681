-- Each case is computed.
use Rattle.std.proofs.Common.{List, [], ◌∷◌, sym, refl, subst}
use mathlib.Core.List.Memᴰ
use Rattle.operation.specs.Letters.{◌∈◌}
use Rattle.operation.specs.Edits.{insert_at, delete_at}
use Rattle.operation.specs.Transform.{through}
use Rattle.operation.specs.Laws.{apply_all}
use Rattle.room.specs.Cases.{Case, Holds, entered, shown, texts, cases, CasesHold}

-- a fact about each of a list, from one fact for each
unfoldable All : List Case → Type 0
All [] = Unit {0}
All (c ∷ cs) = Holds c × All cs

each : (cs : List Case) → All cs → (c : Case) → c ∈ cs → Holds c
unfolding All
each [] all c m = elim m [ ]
each (d ∷ cs) all c (Memᴰ.head e) = subst Holds (sym e) all.0
each (d ∷ cs) all c (Memᴰ.tail m) = each cs all.1 c m

table : All cases
unfolding All entered shown texts insert_at delete_at through apply_all
table = ((refl, refl, refl), ((refl, refl, refl), ((refl, refl, refl), ((refl, refl, refl), ((refl, refl, refl), ((refl, refl, refl), ((refl, refl, refl), ((refl, refl, refl), (refl, tt)))))))))

pub cases_hold : CasesHold
cases_hold = each cases table
