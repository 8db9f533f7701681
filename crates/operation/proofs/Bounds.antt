-- Where 32 bits suffice, the code's transformation is the table's; so TP1 holds of the code's on every text that is not too long.
use Rattle.std.proofs.Common.{◌≡◌, ℕ, ◌+◌, ◌<◌, ◌≤◌, min, List, [], ◌∷◌, length, sym, refl, ap, ◌∙◌, subst, ap₂, arith}
use Rattle.operation.specs.declared.operation.Operation.{Operation}
use Rattle.operation.specs.declared.operation.Operation.TheVariants.{Noop, Insert, Delete}
use Rattle.operation.specs.Edits.{site, apply, Fits}
use Rattle.operation.specs.Transform.{transform, highest, bounded, transformed, Passed, behind, through}
use Rattle.operation.specs.Laws.{singles, apply_all, Others}
use Rattle.operation.specs.Commutes.{Commutes}
use Rattle.operation.proofs.Shapes.{Room, room_less}
use Rattle.operation.proofs.Tp1.{length-insert_at, length-delete_at}
use Rattle.operation.proofs.Singles.{laws}
use Rattle.operation.proofs.Through.{tp1_through}

module _ {A : Type 0} where
  bounded_same : (a : Operation A) → Room 0 a → bounded a ≡ a
  bounded_same (Noop i) h = refl
  bounded_same (Insert i p x) h = let e : min p highest ≡ p = omega arith in ap (λ q. Insert i q x) e
  bounded_same (Delete i p) h = let e : min p highest ≡ p = omega arith in ap (Delete i) e

  pub room_from : (m n : ℕ) (a : Operation A) → m ≤ n → Room n a → Room m a
  room_from m n (Noop i) l h = tt
  room_from m n (Insert i p x) l h = omega arith
  room_from m n (Delete i p) l h = omega arith

  pub exact : (a b : Operation A) → Room 1 a → transformed a b ≡ transform a b
  exact a b h = bounded_same (transform a b) (room_less 0 a b h)

  -- every operation of the list has room for one more
  unfoldable pub Rooms : List (Operation A) → Type 0
  Rooms [] = Unit {0}
  Rooms (b ∷ bs) = Room 1 b × Rooms bs

  pub through_exact : (a : Operation A) (bs : List (Operation A)) → Room (length bs) a → Rooms bs → through transformed transformed a bs ≡ through transform transform a bs
  unfolding through Rooms
  through_exact a [] h k = refl
  through_exact a (b ∷ bs) h k =
      ap₂ (λ (o : Operation A) (c : Operation A). behind c (through transformed transformed o bs)) (exact a b (room_from 1 (length (b ∷ bs)) a (omega arith) h)) (exact b a k.0)
      ∙ ap (behind (transform b a)) (through_exact (transform a b) bs (room_less (length bs) a b (room_from (length bs + 1) (length (b ∷ bs)) a (omega arith) h)) k.1)

  -- what fits a text that is not too long has room
  pub fits_room : (n : ℕ) (a : Operation A) (t : List A) → length t + n < highest → Fits a t → Room n a
  fits_room n (Noop i) t h f = tt
  fits_room n (Insert i p x) t h f = omega arith
  fits_room n (Delete i p) t h f = omega arith

  pub length-apply : (a : Operation A) (t : List A) → Fits a t → length (apply a t) ≤ length t + 1
  length-apply (Noop i) t f = omega arith
  length-apply (Insert i p x) t f = omega (arith, length-insert_at p x t)
  length-apply (Delete i p) t f = omega (arith, length-delete_at p t f)

  pub others_room : (i : ℕ) (bs : List (Operation A)) (t : List A) → length t + length bs < highest → Others (singles A) i bs t → Rooms bs
  unfolding Others Rooms
  others_room i [] t h o = tt
  others_room i (b ∷ bs) t h o =
      (fits_room 1 b t (omega arith) o.1, others_room i bs (apply b t) (omega (arith, length-apply b t o.1)) o.2)

  pub commutes : (a : Operation A) (bs : List (Operation A)) (r : Operation A) (cs : List (Operation A)) →
      r ≡ (through transformed transformed a bs).one → cs ≡ (through transformed transformed a bs).others → Commutes a bs r cs
  commutes a bs r cs e f t h fa o =
      let x = through_exact a bs (fits_room (length bs) a t h fa) (others_room (site a) bs t h o) in
      let m = (tp1_through (singles A) (laws A)).late_through a bs t fa o in
      let er = e ∙ ap (λ (p : Passed (Operation A)). p.one) x in
      let ec = f ∙ ap (λ (p : Passed (Operation A)). p.others) x in (
        subst (λ z. Fits z (apply_all (singles A) bs t)) (sym er) m.one_fits,
        subst (λ z. Others (singles A) (site a) z (apply a t)) (sym ec) m.others_fit,
        ap (λ z. apply z (apply_all (singles A) bs t)) er ∙ m.one_text ∙ ap (λ z. apply_all (singles A) z (apply a t)) (sym ec),
      )
