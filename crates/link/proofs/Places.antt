-- What stands at a place of a part of a list.
use Rattle.std.proofs.Common.{◌≡◌, ℕ, zero, suc, ◌+◌, List, [], ◌∷◌, drop, slice_get, refl, arith}

module _ {A : Type 0} where
  pub slice_get-drop : (n : ℕ) (xs : List A) (k : ℕ) → slice_get (drop n xs) k ≡ slice_get xs (n + k)
  slice_get-drop zero xs k = let e : 0 + k ≡ k = omega arith in rw e refl
  slice_get-drop (suc n) [] k = refl
  slice_get-drop (suc n) (x ∷ xs) k = let e : suc n + k ≡ suc (n + k) = omega arith in rw e (slice_get-drop n xs k)
