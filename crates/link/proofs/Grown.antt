-- A list of which there is only more at the end: its first elements, and what stands in it.
use Rattle.std.proofs.Common.{◌≡◌, ℕ, zero, suc, ◌+◌, ◌-◌, ◌<◌, ◌≤◌, List, [], ◌∷◌, ◌++◌, length, take, Some, slice_get, refl, sym, ap, ◌∙◌, subst, ⊎_elim, arith}
use Rattle.std.proofs.lemmas.List.{append_assoc, append-nil, length-append, take-append-le}
use mathlib.Core.List.Memᴰ
use Rattle.operation.specs.Letters.{◌∈◌}
use Rattle.link.specs.Deliveries.{Grows}

module _ {A : Type 0} where
  pub grows_none : (xs : List A) → Grows xs xs
  grows_none xs = record { more = []; whole = sym (append-nil xs) }

  pub grows_by : (xs more : List A) → Grows xs (xs ++ more)
  grows_by xs more = record { more = more; whole = refl }

  pub grows_on : {xs ys zs : List A} → Grows xs ys → Grows ys zs → Grows xs zs
  grows_on {xs} f g = record { more = f.more ++ g.more; whole = g.whole ∙ ap (λ l. l ++ g.more) f.whole ∙ append_assoc xs f.more g.more }

  pub length-grows : {xs ys : List A} → Grows xs ys → length xs ≤ length ys
  length-grows {xs} g = omega (arith, ap length g.whole, length-append xs g.more)

  pub take-grows : (n : ℕ) {xs ys : List A} → n ≤ length xs → Grows xs ys → take n ys ≡ take n xs
  take-grows n {xs} h g = ap (take n) g.whole ∙ take-append-le n xs g.more h

  get_left : (xs ys : List A) (n : ℕ) (x : A) → slice_get xs n ≡ Some x → slice_get (xs ++ ys) n ≡ Some x
  get_left [] ys n x e = absurd cc
  get_left (y ∷ xs) ys zero x e = e
  get_left (y ∷ xs) ys (suc n) x e = get_left xs ys n x e

  get_back : (xs ys : List A) (n : ℕ) (x : A) → n < length xs → slice_get (xs ++ ys) n ≡ Some x → slice_get xs n ≡ Some x
  get_back [] ys n x h e = absurd (omega arith)
  get_back (y ∷ xs) ys zero x h e = e
  get_back (y ∷ xs) ys (suc n) x h e = get_back xs ys n x (omega arith) e

  pub get-grows : (n : ℕ) (x : A) {xs ys : List A} → Grows xs ys → slice_get xs n ≡ Some x → slice_get ys n ≡ Some x
  get-grows n x {xs} g e = ap (λ l. slice_get l n) g.whole ∙ get_left xs g.more n x e

  pub get_before : (n : ℕ) (x : A) {xs ys : List A} → Grows xs ys → n < length xs → slice_get ys n ≡ Some x → slice_get xs n ≡ Some x
  get_before n x {xs} g h e = get_back xs g.more n x h (ap (λ l. slice_get l n) (sym g.whole) ∙ e)

  pub get-append : (xs ys : List A) (n : ℕ) → slice_get (xs ++ ys) (length xs + n) ≡ slice_get ys n
  get-append [] ys n = ap (slice_get ys) (omega arith)
  get-append (x ∷ xs) ys n = ap (slice_get (x ∷ (xs ++ ys))) (let e : suc (length xs) + n ≡ suc (length xs + n) = omega arith in e) ∙ get-append xs ys n

  pub get_there : (xs : List A) (n : ℕ) → n < length xs → (x : A) × (slice_get xs n ≡ Some x)
  get_there [] n h = absurd (omega arith)
  get_there (x ∷ xs) zero h = (x, refl)
  get_there (x ∷ xs) (suc n) h = get_there xs n (omega arith)

  pub get-last : (xs : List A) (x : A) → slice_get (xs ++ x ∷ []) (length (xs ++ x ∷ []) - 1) ≡ Some x
  get-last xs x = ap (slice_get (xs ++ x ∷ [])) (omega (arith, length-append xs (x ∷ []))) ∙ get-append xs (x ∷ []) 0

  pub get_in : (xs : List A) (n : ℕ) (x : A) → slice_get xs n ≡ Some x → x ∈ xs
  get_in [] n x e = absurd cc
  get_in (y ∷ xs) zero x e = Memᴰ.head cc
  get_in (y ∷ xs) (suc n) x e = Memᴰ.tail (get_in xs n x e)

  pub in_one : {x y : A} → x ∈ y ∷ [] → x ≡ y
  in_one m = ⊎_elim (λ e. e) (λ t. absurd (Memᴰ.not-nil t)) (Memᴰ.cases_cons m)

  pub in_grown : {x : A} {xs ys : List A} → Grows xs ys → x ∈ xs → x ∈ ys
  in_grown {x} g m = subst (λ l. x ∈ l) (sym g.whole) (Memᴰ.append_left g.more m)
