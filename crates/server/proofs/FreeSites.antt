-- Which site is free.
use Rattle.std.proofs.Common.{◌≡◌, ℕ, zero, suc, ◌+◌, ◌<◌, Bool, true, false, cond, ltb, not, List, [], ◌∷◌, Some, None, IfSome, Option, Bor, refl, sym, ap, ◌∙◌, subst, arith, add-one}
use Rattle.std.proofs.lemmas.Bool.{ltb-true, cond-true, cond-false}
use Rattle.std.proofs.lemmas.Option.{IfSome_then}
use Rattle.std.proofs.iter.runs.Sources.{nat_range_steps_back}
use Rattle.std.specs.declared.iter.Rev.{Rev}
use Rattle.std.specs.declared.ops.Range.{Range}
use Rattle.std.specs.Fn.{CalledAt}
use Rattle.std.specs.Iterator.{YieldsThen}
use Rattle.std.specs.Iterator.Adapters.{rev_steps}
use Rattle.std.specs.List.{FoldsTo}
use denote.Param.Members.{Mut}
use Rattle.server.specs.Sessions.{Seat}
use Rattle.server.specs.Seats.{Op}
use Rattle.server.specs.Servers.{highest_free, site_for}

module _ (f : ℕ → Seat Op) where
  none : highest_free 0 f ≡ None
  unfolding highest_free
  none = refl

  free_here : (n : ℕ) → (f n).connected ≡ false → highest_free (n + 1) f ≡ Some n
  unfolding highest_free
  free_here n e = rw add-one (cond-false _ (highest_free n f) _ e)

  free_below : (n : ℕ) → (f n).connected ≡ true → highest_free (n + 1) f ≡ highest_free n f
  unfolding highest_free
  free_below n e = rw add-one (cond-true _ _ (Some n) e)

  -- what is found from the top of a range, by a test that holds of a free site
  module _ {F : Type 0} (g : Mut F (Bor ℕ × Unit {0}) Bool) (test : F) (calls : (x : ℕ) (b : Bool) (q : F) → CalledAt g test x b q → (q ≡ test) × (b ≡ not (f x).connected)) where
    pub found : (xs : List ℕ) (n : ℕ) (s u : Rev (Range ℕ)) (r : Option ℕ) (p q : F) → s.iter ≡ record { start = 0; end = n } → p ≡ test →
        YieldsThen (rev_steps nat_range_steps_back) s xs r u → FoldsTo (λ p x q. CalledAt g p x false q) p xs q → IfSome r (λ x. (h : F) × CalledAt g q x true h) → r ≡ highest_free n f
    found [] n s u None p q range is y folds hit =
        let here = ap (λ w. w.iter) (sym y.1) ∙ range in
        let e : n ≡ 0 = omega (arith, y.2.1.0, ap (λ w. w.start) here, ap (λ w. w.end) here) in sym (ap (λ k. highest_free k f) e ∙ none)
    found [] n s u (Some x) p q range is y folds hit =
        let here = ap (λ w. w.iter) (sym y.1) ∙ range in
        let e : n ≡ x + 1 = omega (arith, y.2.1.1, y.2.1.2, ap (λ w. w.end) here) in
        let passes = (calls x true hit.0 (subst (λ t. CalledAt g t x true hit.0) (sym folds ∙ is) hit.1)).1 in
        sym (ap (λ k. highest_free k f) e ∙ free_here x (grind (arith, passes)))
    found (x ∷ xs) n s u r p q range is y folds hit =
        let t = y.1.0 in
        let fails = calls x false folds.0 (subst (λ t. CalledAt g t x false folds.0) is folds.1) in
        let e : n ≡ x + 1 = omega (arith, y.1.1.1.1, y.1.1.1.2, ap (λ w. w.end) range) in
        let rest : t.iter ≡ record { start = 0; end = x } = grind (arith, y.1.1.0, y.1.1.1.1, ap (λ w. w.start) range) in
        found xs x t u r folds.0 q rest fails.0 (y.0, y.1.2, y.2) folds.2 hit ∙ sym (ap (λ k. highest_free k f) e ∙ free_below x (grind (arith, fails.1)))

  highest_below : (n : ℕ) → IfSome (highest_free n f) (λ i. i < n)
  unfolding highest_free
  highest_below zero = tt
  highest_below (suc n) =
      elim (f n).connected as (λ b. IfSome (cond b (highest_free n f) (Some n)) (λ i. i < suc n)) [
        | true ↦ IfSome_then (highest_free n f) (highest_below n) (λ i l. omega arith)
        | false ↦ omega arith
      ]

  either_below : (w : ℕ) (wished connected : Bool) → ltb w 16 ≡ wished → IfSome (cond wished (cond connected (highest_free 16 f) (Some w)) (highest_free 16 f)) (λ i. i < 16)
  either_below w false connected e = highest_below 16
  either_below w true true e = highest_below 16
  either_below w true false e = ltb-true w 16 e

  -- the site that is chosen is one of the sixteen
  pub chosen_below : (w i : ℕ) → Some i ≡ site_for w f → i < 16
  chosen_below w i e = subst (λ o. IfSome o (λ i. i < 16)) (sym e) (either_below w (ltb w 16) (f w).connected refl)
