-- TP1 as the code keeps it. Its places have 32 bits, so it is said of texts whose length, with the list's, is below the highest place.
use Rattle.std.specs.Prelude.{◌≡◌, ◌+◌, ◌<◌, List, length}
use Rattle.operation.specs.declared.operation.Operation.{Operation}
use Rattle.operation.specs.Edits.{site, apply, Fits}
use Rattle.operation.specs.Transform.{highest}
use Rattle.operation.specs.Laws.{singles, apply_all, Others}

-- r is a past all of bs, and cs is these past a: bs and then r comes to what a and then cs comes to, and all fit
abbrev pub Commutes : {A : Type 0} → Operation A → List (Operation A) → Operation A → List (Operation A) → Type 0
Commutes {A} a bs r cs = (t : List A) → length t + length bs < highest → Fits a t → Others (singles A) (site a) bs t →
    Fits r (apply_all (singles A) bs t) × Others (singles A) (site a) cs (apply a t)
    × (apply r (apply_all (singles A) bs t) ≡ apply_all (singles A) cs (apply a t))
