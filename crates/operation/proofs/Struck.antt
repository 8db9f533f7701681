-- What an operation strikes once it has gone past another: what it would have struck, unless that is gone already.
use Rattle.std.proofs.Common.{◌≡◌, ℕ, zero, suc, ◌+◌, ◌-◌, ◌<◌, ◌≤◌, cond, eqb, ltb, leb, ◌⊎◌, List, [], ◌∷◌, length, take, drop, sym, refl, ap, subst, inl, inr, ⊎_elim, add-one, arith}
use mathlib.Core.List.Memᴰ
use Rattle.std.proofs.lemmas.Bool.{cond_both, ltb-true, ltb-false, leb-true, leb-false, eqb-true, eqb-false}
use Rattle.operation.specs.declared.operation.Operation.{Operation}
use Rattle.operation.specs.declared.operation.Operation.TheVariants.{Noop, Insert, Delete}
use Rattle.operation.specs.Letters.{◌∈◌, Once, Apart}
use Rattle.operation.specs.Edits.{insert_at, delete_at, apply, Fits, strikes}
use Rattle.operation.specs.Transform.{transform}
use Rattle.operation.proofs.Shapes.{insert_unstriking}
use Rattle.operation.proofs.Standing.{struck_in}

module _ {A : Type 0} where
  -- where the letter at p stands after an edit at q
  behind-insert : (p q : ℕ) (y : A) (t : List A) → q ≤ p → take 1 (drop (suc p) (insert_at q y t)) ≡ take 1 (drop p t)
  unfolding insert_at
  behind-insert p zero y t h = refl
  behind-insert zero (suc q) y t h = absurd (omega arith)
  behind-insert (suc p) (suc q) y [] h = refl
  behind-insert (suc p) (suc q) y (l ∷ t) h = behind-insert p q y t (omega arith)

  before-insert : (p q : ℕ) (y : A) (t : List A) → p < q → p < length t → take 1 (drop p (insert_at q y t)) ≡ take 1 (drop p t)
  unfolding insert_at
  before-insert p q y [] h k = absurd (omega arith)
  before-insert p zero y (l ∷ t) h k = absurd (omega arith)
  before-insert zero (suc q) y (l ∷ t) h k = refl
  before-insert (suc p) (suc q) y (l ∷ t) h k = before-insert p q y t (omega arith) (omega arith)

  behind-delete : (p q : ℕ) (t : List A) → q ≤ p → take 1 (drop p (delete_at q t)) ≡ take 1 (drop (suc p) t)
  unfolding delete_at
  behind-delete zero q [] h = refl
  behind-delete (suc p) q [] h = refl
  behind-delete p zero (l ∷ t) h = refl
  behind-delete zero (suc q) (l ∷ t) h = absurd (omega arith)
  behind-delete (suc p) (suc q) (l ∷ t) h = behind-delete p q t (omega arith)

  before-delete : (p q : ℕ) (t : List A) → p < q → take 1 (drop p (delete_at q t)) ≡ take 1 (drop p t)
  unfolding delete_at
  before-delete p q [] h = refl
  before-delete p zero (l ∷ t) h = absurd (omega arith)
  before-delete zero (suc q) (l ∷ t) h = refl
  before-delete (suc p) (suc q) (l ∷ t) h = before-delete p q t (omega arith)

  -- two places hold two letters
  places_apart : (p q : ℕ) (t : List A) → Once t → (p ≡ q → ⊥) → Apart (take 1 (drop p t)) (take 1 (drop q t))
  unfolding Once
  places_apart zero q [] o n x a b = Memᴰ.not-nil a
  places_apart (suc p) q [] o n x a b = Memᴰ.not-nil a
  places_apart zero zero (l ∷ t) o n x a b = n refl
  places_apart zero (suc q) (l ∷ t) o n x a b =
      ⊎_elim (λ e. o.0 (Memᴰ.cast (sym e) (struck_in q x t b))) (λ k. Memᴰ.not-nil k) (Memᴰ.cases_cons a)
  places_apart (suc p) zero (l ∷ t) o n x a b =
      ⊎_elim (λ e. o.0 (Memᴰ.cast (sym e) (struck_in p x t a))) (λ k. Memᴰ.not-nil k) (Memᴰ.cases_cons b)
  places_apart (suc p) (suc q) (l ∷ t) o n x a b = places_apart p q t o.1 (λ e. n (ap suc e)) x a b

  -- the list of what is struck is as it was, apart from what the other struck; or all of it is what the other struck
  abbrev Left : List A → List A → List A → Type 0
  Left now was other = ((now ≡ was) × Apart was other) ⊎ ((now ≡ []) × ((x : A) → x ∈ was → x ∈ other))

  abbrev Strikes : Operation A → Operation A → List A → Operation A → Type 0
  Strikes a b t r = Left (strikes r (apply b t)) (strikes a t) (strikes b t)

  left : (a b : Operation A) (t : List A) → Fits a t → Fits b t → Once t → Strikes a b t (transform a b)
  left (Noop i) b t fa fb o = inr (refl, λ x m. absurd (Memᴰ.not-nil m))
  left (Insert i p x) b t fa fb o = inr (insert_unstriking i p x b (apply b t), λ y m. absurd (Memᴰ.not-nil m))
  left (Delete i p) (Noop j) t fa fb o = inl (refl, λ x m n. Memᴰ.not-nil n)
  left (Delete i p) (Insert j q y) t fa fb o =
      cond_both (leb q p) (Delete i (p + 1)) (Delete i p) (Strikes (Delete i p) (Insert j q y) t)
      (λ e. inl (rw add-one (behind-insert p q y t (leb-true q p e)), λ x m n. Memᴰ.not-nil n))
      (λ e. inl (before-insert p q y t (leb-false q p e) fa, λ x m n. Memᴰ.not-nil n))
  left (Delete i p) (Delete j q) t fa fb o =
      cond_both (ltb q p) (Delete i (p - 1)) (cond (eqb q p) (Noop i) (Delete i p)) (Strikes (Delete i p) (Delete j q) t)
      (λ e. let h = ltb-true q p e in
      let s : suc (p - 1) ≡ p = omega arith in
      inl (subst (λ k. take 1 (drop (p - 1) (delete_at q t)) ≡ take 1 (drop k t)) s (behind-delete (p - 1) q t (omega arith)), places_apart p q t o (λ z. omega arith)))
      (λ e. cond_both (eqb q p) (Noop i) (Delete i p) (Strikes (Delete i p) (Delete j q) t)
      (λ f. inr (refl, λ x m. subst (λ k. x ∈ take 1 (drop k t)) (sym (eqb-true q p f)) m))
      (λ f. let h = ltb-false q p e in
      let n : p ≡ q → ⊥ = λ z. eqb-false q p f (sym z) in
      inl (before-delete p q t (omega arith), places_apart p q t o n)))

  pub strikes_less : (a b : Operation A) (t : List A) (x : A) → Fits a t → Fits b t → Once t →
      x ∈ strikes (transform a b) (apply b t) → (x ∈ strikes a t) × (x ∈ strikes b t → ⊥)
  strikes_less a b t x fa fb o m = ⊎_elim
      (λ l. let n = subst (λ s. x ∈ s) l.0 m in (n, λ k. l.1 x n k))
      (λ l. absurd (Memᴰ.not-nil (subst (λ s. x ∈ s) l.0 m))) (left a b t fa fb o)

  pub strikes_rest : (a b : Operation A) (t : List A) (x : A) → Fits a t → Fits b t → Once t →
      x ∈ strikes a t → (x ∈ strikes b t → ⊥) → x ∈ strikes (transform a b) (apply b t)
  strikes_rest a b t x fa fb o m n = ⊎_elim (λ l. subst (λ s. x ∈ s) (sym l.0) m) (λ l. absurd (n (l.1 x m))) (left a b t fa fb o)
