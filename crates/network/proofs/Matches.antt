-- The connection's own entries are the first of what is pending in it, in their order; and they stay so with one entry or one pending operation more.
use Rattle.std.proofs.Common.{◌≡◌, ℕ, suc, ◌<◌, ◌≤◌, List, [], ◌∷◌, ◌++◌, length, drop, ◌≢◌, sym, ap, subst, arith}
use Rattle.operation.specs.Transform.{Passed}
use Rattle.operation.specs.Laws.{Kind}
use Rattle.network.specs.Runs.{Row}
use Rattle.network.specs.OneRecord.{taken_of}
use Rattle.network.proofs.Grid.{taken_own, taken_other, through_snoc, length_others, run_own, run_other}
use Rattle.network.proofs.Invariants.{over, run, Ran, Heads, Match, end, own, other}

-- where something is pending, that entry is the first of it
pub heads_first : {A : Type 0} (k : Kind A) (p : List k.Op) (o : k.Op) → Heads k p o → 0 < length p → p ≡ o ∷ drop 1 p
heads_first k [] o f b = absurd (omega arith)
heads_first k (q ∷ p) o f b = ap (λ z. z ∷ p) f

module _ {A : Type 0} (k : Kind A) (c : ℕ) where
  -- one entry more at the end
  pub match_own_snoc : (e : Row k.Op) (s : ℕ) {p : List k.Op} {es : List (Row k.Op)} → Match k c p es → e.by ≡ c → Heads k (run k c s p es).out e.op →
      Match k c p (es ++ e ∷ [])
  unfolding run
  match_own_snoc e s end h f = own h f end
  match_own_snoc e s (own {p} {e = d} {es} b g m) h f = own b g (match_own_snoc e (suc s) m h (subst (λ (r : Ran k). Heads k r.out e.op) (run_own k c s p d es b) f))
  match_own_snoc e s (other {p} {e = d} {es} b m) h f = other b (match_own_snoc e (suc s) m h (subst (λ (r : Ran k). Heads k r.out e.op) (run_other k c s p d es b) f))

  pub match_other_snoc : (e : Row k.Op) {p : List k.Op} {es : List (Row k.Op)} → Match k c p es → e.by ≢ c → Match k c p (es ++ e ∷ [])
  match_other_snoc e end h = other h end
  match_other_snoc e (own b g m) h = own b g (match_other_snoc e m h)
  match_other_snoc e (other b m) h = other b (match_other_snoc e m h)

  -- one operation more that is pending
  pub match_more : (o : k.Op) {p : List k.Op} {es : List (Row k.Op)} → Match k c p es → taken_of c es ≤ length p → Match k c (p ++ o ∷ []) es
  match_more o end l = end
  match_more o (own {p} {e} {es} b g m) l = more p g (λ h. match_more o m h) (omega (arith, taken_own c e es b))
    where
      more : (p : List k.Op) → Heads k p e.op → (taken_of c es ≤ length (drop 1 p) → Match k c (drop 1 p ++ o ∷ []) es) →
          suc (taken_of c es) ≤ length p → Match k c (p ++ o ∷ []) (e ∷ es)
      more [] g m l = absurd (omega arith)
      more (f ∷ p) g m l = own b g (m (omega arith))
  match_more o (other {p} {e} {es} b m) l = other b (subst (λ q. Match k c q es) (sym (ap (λ (r : Passed k.Op). r.others) (through_snoc k.early k.late e.op p o)))
      (match_more (k.late o (over k e.op p).one) m (omega (arith, taken_other c e es b, length_others k.early k.late e.op p))))

  -- the first of the entries
  pub match_front : (es fs : List (Row k.Op)) {p : List k.Op} → Match k c p (es ++ fs) → Match k c p es
  match_front [] fs m = end
  match_front (e ∷ es) fs (own b g m) = own b g (match_front es fs m)
  match_front (e ∷ es) fs (other b m) = other b (match_front es fs m)

  pub match_sees : {p : List k.Op} {e : Row k.Op} {es : List (Row k.Op)} → Match k c p (e ∷ es) → e.by ≢ c → Match k c (over k e.op p).others es
  match_sees (own b g m) h = absurd (h b)
  match_sees (other b m) h = m

  pub match_sees_own : {p : List k.Op} {e : Row k.Op} {es : List (Row k.Op)} → Match k c p (e ∷ es) → e.by ≡ c → Heads k p e.op × Match k c (drop 1 p) es
  match_sees_own (own b g m) h = (g, m)
  match_sees_own (other b m) h = absurd (b h)
