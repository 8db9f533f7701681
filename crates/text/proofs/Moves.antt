-- What moving a part of a list by one leaves.
use Rattle.std.proofs.Common.{◌≡◌, ℕ, zero, suc, ◌+◌, ◌-◌, ◌<◌, ◌≤◌, List, [], ◌∷◌, ◌++◌, length, take, drop, set, sym, refl, ap, ◌∙◌, ap₂, arith}
use borrow.Rule.Slice.PartMut.{put_mid}
use lib.Seq.{paste}
use Rattle.std.proofs.lemmas.List.{drop_all, take_all, append-nil, append_assoc, take_at, take-take, length-take-le, length-drop, length-append, drop-drop}
use Rattle.std.proofs.lemmas.Slice.{between_is}
use Rattle.operation.specs.Edits.{insert_at, delete_at}

module _ {X : Type 0} where
  pub moved_up : (s t : List X) (x : X) (n : ℕ) → 0 < length s → n ≡ length s - 1 → t ≡ paste s 1 s n → set t 0 x ≡ x ∷ take (length s - 1) s
  moved_up [] t x n h l e = absurd (omega arith)
  moved_up (y ∷ ys) t x n h l e =
      ap (λ z. set z 0 x) e ∙ ap (λ z. x ∷ (take n (y ∷ ys) ++ z)) (drop_all (1 + n) (y ∷ ys) (omega arith))
      ∙ ap (λ z. x ∷ z) (append-nil (take n (y ∷ ys))) ∙ ap (λ m. x ∷ take m (y ∷ ys)) l

  pub moved_down : (s t : List X) → 0 < length s → t ≡ paste s 0 (drop 1 s) (length s - 1) → t ≡ drop 1 s ++ drop (length s - 1) s
  moved_down s t h e =
      let l = length-drop 1 s in
      let z : 0 + (length s - 1) ≡ length s - 1 = omega arith in
      e ∙ ap (λ f. f ++ drop (0 + (length s - 1)) s) (take_all (length s - 1) (drop 1 s) (omega arith)) ∙ ap (λ k. drop 1 s ++ drop k s) z

  insert_at-is : (p : ℕ) (x : X) (t : List X) → p ≤ length t → insert_at p x t ≡ take p t ++ x ∷ drop p t
  unfolding insert_at
  insert_at-is zero x t h = refl
  insert_at-is (suc p) x [] h = absurd (omega arith)
  insert_at-is (suc p) x (l ∷ t) h = ap (◌∷◌ l) (insert_at-is p x t (omega arith))

  delete_at-is : (p : ℕ) (t : List X) → p < length t → delete_at p t ≡ take p t ++ drop (suc p) t
  unfolding delete_at
  delete_at-is p [] h = absurd (omega arith)
  delete_at-is zero (l ∷ t) h = refl
  delete_at-is (suc p) (l ∷ t) h = ap (◌∷◌ l) (delete_at-is p t (omega arith))

  -- the part from p on, moved up, back in its list: an insertion, and the last is gone
  pub part_up : (s q : List X) (p : ℕ) (x : X) → p < length s →
      q ≡ x ∷ take (length (take (length s - p) (drop p s)) - 1) (take (length s - p) (drop p s)) →
      put_mid p (length s - p) s q ≡ insert_at p x (take (length s - 1) s)
  part_up s q p x h e =
      let n : ℕ = length s - 1 in
      let long = length-drop p s in
      let all : take (length s - p) (drop p s) ≡ drop p s = take_all (length s - p) (drop p s) (omega arith) in
      let m : length (take (length s - p) (drop p s)) - 1 ≡ n - p = omega (arith, ap length all) in
      let part : q ≡ x ∷ take (n - p) (drop p s) = e ∙ ap₂ (λ k z. x ∷ take k z) m all in
      let first = length-take-le n s (omega arith) in
      ap₂ (λ a b. take p s ++ (a ++ b)) part (drop_all (length s - p) (drop p s) (omega arith))
      ∙ ap (λ z. take p s ++ z) (append-nil (x ∷ take (n - p) (drop p s)))
      ∙ sym (insert_at-is p x (take n s) (omega arith) ∙ ap (λ z. z ++ x ∷ drop p (take n s)) (take-take p n s (omega arith))
      ∙ ap (λ z. take p s ++ x ∷ z) (sym (between_is s p n)))

  -- the part from p on, moved down, back in its list: a deletion, and one more at the end
  pub part_down : (s q : List X) (p : ℕ) → p < length s →
      q ≡ drop 1 (take (length s - p) (drop p s)) ++ drop (length (take (length s - p) (drop p s)) - 1) (take (length s - p) (drop p s)) →
      take (length s - 1) (put_mid p (length s - p) s q) ≡ delete_at p s
  part_down s q p h e =
      let rest : List X = drop 1 (take (length s - p) (drop p s)) in
      let last : List X = drop (length (take (length s - p) (drop p s)) - 1) (take (length s - p) (drop p s)) in
      let post : List X = drop (length s - p) (drop p s) in
      let parts : put_mid p (length s - p) s q ≡ (take p s ++ rest) ++ (last ++ post) =
      ap (λ z. take p s ++ (z ++ post)) e ∙ ap (λ z. take p s ++ z) (append_assoc rest last post) ∙ sym (append_assoc (take p s) rest (last ++ post)) in
      let all : take (length s - p) (drop p s) ≡ drop p s = take_all (length s - p) (drop p s) (omega (arith, length-drop p s)) in
      let next : p + 1 ≡ suc p = omega arith in
      let behind : rest ≡ drop (suc p) s = ap (drop 1) all ∙ drop-drop 1 p s ∙ ap (λ k. drop k s) next in
      let long : length (take p s ++ rest) ≡ length s - 1 =
      omega (arith, length-append (take p s) rest, length-take-le p s (omega arith), ap length behind, length-drop (suc p) s) in
      ap (take (length s - 1)) parts ∙ take_at (take p s ++ rest) (last ++ post) (length s - 1) long
      ∙ ap (λ z. take p s ++ z) behind ∙ sym (delete_at-is p s h)
