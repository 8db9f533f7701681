-- One call more is told last.
use Rattle.std.proofs.Common.{◌≡◌, ℕ, List, [], ◌∷◌, ◌++◌, refl}
use Rattle.journal.specs.Disks.{Told, told_by, told_from, nothing_told, told}

told_from-more : (calls : List (ℕ × ℕ)) (call : ℕ × ℕ) (t : Told) → told_from (calls ++ call ∷ []) t ≡ told_by call (told_from calls t)
unfolding told_from
told_from-more [] call t = refl
told_from-more (c ∷ calls) call t = told_from-more calls call (told_by c t)

pub told_more : (calls : List (ℕ × ℕ)) (call : ℕ × ℕ) → told (calls ++ call ∷ []) ≡ told_by call (told calls)
told_more calls call = told_from-more calls call nothing_told
