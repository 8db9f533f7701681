-- Transformation property 1 for single letters: either of two operations of different sites may be done first.
use Rattle.std.proofs.Common.{◌≡◌, ℕ, zero, suc, ◌+◌, ◌-◌, ◌<◌, ◌≤◌, cond, eqb, ltb, leb, List, [], ◌∷◌, length, sym, refl, ap, add-one, arith}
use Rattle.std.proofs.lemmas.Bool.Decides.{nat_tests}
use Rattle.std.proofs.lemmas.Bool.{cond_both, ltb-true, ltb-false, eqb-false}
use Rattle.operation.specs.declared.operation.Operation.{Operation}
use Rattle.operation.specs.declared.operation.Operation.TheVariants.{Noop, Insert, Delete}
use Rattle.operation.specs.Edits.{insert_at, delete_at, site, apply, Fits}
use Rattle.operation.specs.Transform.{transform}

pub length-insert_at : {A : Type 0} (p : ℕ) (x : A) (t : List A) → length (insert_at p x t) ≡ length t + 1
unfolding insert_at
length-insert_at zero x t = omega arith
length-insert_at (suc p) x [] = refl
length-insert_at (suc p) x (l ∷ t) = omega (arith, length-insert_at p x t)

pub length-delete_at : {A : Type 0} (p : ℕ) (t : List A) → p < length t → length (delete_at p t) + 1 ≡ length t
unfolding delete_at
length-delete_at p [] h = absurd (omega arith)
length-delete_at zero (l ∷ t) h = omega arith
length-delete_at (suc p) (l ∷ t) h = omega (arith, length-delete_at p t (omega arith))

module _ {A : Type 0} where
  insert-insert : (p q : ℕ) (x y : A) (t : List A) → q ≤ p → p ≤ length t → insert_at (suc p) x (insert_at q y t) ≡ insert_at q y (insert_at p x t)
  unfolding insert_at
  insert-insert p zero x y t h k = refl
  insert-insert zero (suc q) x y t h k = absurd (omega arith)
  insert-insert (suc p) (suc q) x y [] h k = absurd (omega arith)
  insert-insert (suc p) (suc q) x y (l ∷ t) h k = ap (◌∷◌ l) (insert-insert p q x y t (omega arith) (omega arith))

  -- an insertion, and a deletion behind it
  delete-insert : (p q : ℕ) (x : A) (t : List A) → p ≤ q → q < length t → delete_at (suc q) (insert_at p x t) ≡ insert_at p x (delete_at q t)
  unfolding insert_at delete_at
  delete-insert zero q x t h k = refl
  delete-insert (suc p) zero x t h k = absurd (omega arith)
  delete-insert (suc p) (suc q) x [] h k = absurd (omega arith)
  delete-insert (suc p) (suc q) x (l ∷ t) h k = ap (◌∷◌ l) (delete-insert p q x t (omega arith) (omega arith))

  -- a deletion, and an insertion behind it
  insert-delete : (p q : ℕ) (x : A) (t : List A) → q ≤ p → p < length t → insert_at p x (delete_at q t) ≡ delete_at q (insert_at (suc p) x t)
  unfolding insert_at delete_at
  insert-delete p q x [] h k = absurd (omega arith)
  insert-delete p zero x (l ∷ t) h k = refl
  insert-delete zero (suc q) x (l ∷ t) h k = absurd (omega arith)
  insert-delete (suc p) (suc q) x (l ∷ t) h k = ap (◌∷◌ l) (insert-delete p q x t (omega arith) (omega arith))

  delete-delete : (p q : ℕ) (t : List A) → q ≤ p → suc p < length t → delete_at p (delete_at q t) ≡ delete_at q (delete_at (suc p) t)
  unfolding delete_at
  delete-delete p q [] h k = absurd (omega arith)
  delete-delete p zero (l ∷ t) h k = refl
  delete-delete zero (suc q) (l ∷ t) h k = absurd (omega arith)
  delete-delete (suc p) (suc q) (l ∷ t) h k = ap (◌∷◌ l) (delete-delete p q t (omega arith) (omega arith))

  -- the same at the places as the table writes them
  insert-insert' : (p q : ℕ) (x y : A) (t : List A) → q ≤ p → p ≤ length t → insert_at (p + 1) x (insert_at q y t) ≡ insert_at q y (insert_at p x t)
  insert-insert' p q x y t h k = rw add-one (insert-insert p q x y t h k)

  delete-insert' : (p q : ℕ) (x : A) (t : List A) → p ≤ q → q < length t → delete_at (q + 1) (insert_at p x t) ≡ insert_at p x (delete_at q t)
  delete-insert' p q x t h k = rw add-one (delete-insert p q x t h k)

  insert-delete' : (p q : ℕ) (x : A) (t : List A) → q < p → p ≤ length t → insert_at (p - 1) x (delete_at q t) ≡ delete_at q (insert_at p x t)
  insert-delete' zero q x t h k = absurd (omega arith)
  insert-delete' (suc p) q x t h k = let e : suc p - 1 ≡ p = omega arith in rw e (insert-delete p q x t (omega arith) (omega arith))

  delete-delete' : (p q : ℕ) (t : List A) → q < p → p < length t → delete_at (p - 1) (delete_at q t) ≡ delete_at q (delete_at p t)
  delete-delete' zero q t h k = absurd (omega arith)
  delete-delete' (suc p) q t h k = let e : suc p - 1 ≡ p = omega arith in rw e (delete-delete p q t (omega arith) (omega arith))

  both-insert : (i p : ℕ) (x : A) (j q : ℕ) (y : A) (t : List A) → p ≤ length t → q ≤ length t → (i ≡ j → ⊥) →
      apply (transform (Insert i p x) (Insert j q y)) (insert_at q y t) ≡ apply (transform (Insert j q y) (Insert i p x)) (insert_at p x t)
  both-insert i p x j q y t fa fb d = grind (arith, nat_tests, insert-insert')

  insert_and_delete : (i p : ℕ) (x : A) (j q : ℕ) (t : List A) → p ≤ length t → q < length t →
      apply (transform (Insert i p x) (Delete j q)) (delete_at q t) ≡ apply (transform (Delete j q) (Insert i p x)) (insert_at p x t)
  insert_and_delete i p x j q t fa fb = grind (arith, nat_tests, delete-insert', insert-delete')

  both-delete : (i p j q : ℕ) (t : List A) → p < length t → q < length t →
      apply (transform (Delete i p) (Delete j q)) (delete_at q t) ≡ apply (transform (Delete j q) (Delete i p)) (delete_at p t)
  both-delete i p j q t fa fb = grind (arith, nat_tests, delete-delete')

  pub tp1 : (a b : Operation A) (t : List A) → (site a ≡ site b → ⊥) → Fits a t → Fits b t → apply (transform a b) (apply b t) ≡ apply (transform b a) (apply a t)
  tp1 (Noop i) (Noop j) t d fa fb = refl
  tp1 (Noop i) (Insert j q y) t d fa fb = refl
  tp1 (Noop i) (Delete j q) t d fa fb = refl
  tp1 (Insert i p x) (Noop j) t d fa fb = refl
  tp1 (Insert i p x) (Insert j q y) t d fa fb = both-insert i p x j q y t fa fb d
  tp1 (Insert i p x) (Delete j q) t d fa fb = insert_and_delete i p x j q t fa fb
  tp1 (Delete i p) (Noop j) t d fa fb = refl
  tp1 (Delete i p) (Insert j q y) t d fa fb = sym (insert_and_delete j q y i p t fb fa)
  tp1 (Delete i p) (Delete j q) t d fa fb = both-delete i p j q t fa fb

  -- what has gone past another fits the text after that
  pub fits-transform : (a b : Operation A) (t : List A) → Fits a t → Fits b t → Fits (transform a b) (apply b t)
  fits-transform (Noop i) b t fa fb = tt
  fits-transform (Insert i p x) (Noop j) t fa fb = fa
  fits-transform (Insert i p x) (Insert j q y) t fa fb =
      let n = length-insert_at q y t in
      cond_both _ (Insert i (p + 1) x) (Insert i p x) (λ o. Fits o (insert_at q y t)) (λ _. omega arith) (λ _. omega arith)
  fits-transform (Insert i p x) (Delete j q) t fa fb =
      let n = length-delete_at q t fb in
      cond_both (ltb q p) (Insert i (p - 1) x) (Insert i p x) (λ o. Fits o (delete_at q t)) (λ e. omega (arith, ltb-true q p e)) (λ e. omega (arith, ltb-false q p e))
  fits-transform (Delete i p) (Noop j) t fa fb = fa
  fits-transform (Delete i p) (Insert j q y) t fa fb =
      let n = length-insert_at q y t in
      cond_both (leb q p) (Delete i (p + 1)) (Delete i p) (λ o. Fits o (insert_at q y t)) (λ _. omega arith) (λ _. omega arith)
  fits-transform (Delete i p) (Delete j q) t fa fb =
      let n = length-delete_at q t fb in
      cond_both (ltb q p) (Delete i (p - 1)) (cond (eqb q p) (Noop i) (Delete i p)) (λ o. Fits o (delete_at q t))
      (λ e. omega (arith, ltb-true q p e))
      (λ e. cond_both (eqb q p) (Noop i) (Delete i p) (λ o. Fits o (delete_at q t)) (λ _. tt) (λ f. omega (arith, ltb-false q p e, eqb-false q p f)))
