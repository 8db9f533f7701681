-- One operation on its way through a list that is read and written in place.
use Rattle.std.proofs.Common.{◌≡◌, ℕ, ◌+◌, ◌<◌, ◌≤◌, List, [], ◌∷◌, ◌++◌, length, get_or, take, drop, set, sym, refl, ap, ◌∙◌, arith, length-set}
use Rattle.std.proofs.lemmas.List.{take_more_set, drop_more, drop-set-lt, append_assoc, get_or-drop, drop_all, take_all, append-nil}
use Rattle.operation.specs.Transform.{through}

-- `op` went in and is `one` after the first i of xs; ys is the list as it then stands
pub record Passing {O : Type 0} (f g : O → O → O) (op one : O) (xs ys : List O) (i : ℕ) : Type 0 where
  pub one_is : (through f g op xs).one ≡ (through f g one (drop i xs)).one
  pub others_are : (through f g op xs).others ≡ take i ys ++ (through f g one (drop i xs)).others
  pub rest : drop i ys ≡ drop i xs
  pub long : length ys ≡ length xs

module _ {O : Type 0} (f g : O → O → O) where
  pub passing_none : (op : O) (xs : List O) → Passing f g op op xs xs 0
  passing_none op xs = record { one_is = refl; others_are = refl; rest = refl; long = refl }

  step_one : (one x : O) (bs : List O) → (through f g one (x ∷ bs)).one ≡ (through f g (f one x) bs).one
  unfolding through
  step_one one x bs = refl

  step_others : (one x : O) (bs : List O) → (through f g one (x ∷ bs)).others ≡ g x one ∷ (through f g (f one x) bs).others
  unfolding through
  step_others one x bs = refl

  -- the element that is read next is still the one that the list began with
  read : (d : O) {op one : O} {xs ys : List O} {i : ℕ} → Passing f g op one xs ys i → get_or ys i d ≡ get_or xs i d
  read d {op} {one} {xs} {ys} {i} p =
      let a = get_or-drop i ys 0 d in
      let b = get_or-drop i xs 0 d in
      let z : i + 0 ≡ i = omega arith in
      simp z at (sym a ∙ ap (λ bs. get_or bs 0 d) p.rest ∙ b)

  pub passing_more : (d x : O) {op one : O} {xs ys : List O} {i : ℕ} → i < length ys → x ≡ get_or ys i d → Passing f g op one xs ys i →
      Passing f g op (f one x) xs (set ys i (g x one)) (i + 1)
  passing_more d x {op} {one} {xs} {ys} {i} h e p =
      let h' : i < length xs = let l = p.long in omega arith in
      let n : drop i xs ≡ x ∷ drop (i + 1) xs = drop_more xs i d h' ∙ ap (λ y. y ∷ drop (i + 1) xs) (sym (e ∙ read d p)) in
      let m : drop i ys ≡ x ∷ drop (i + 1) ys = drop_more ys i d h ∙ ap (λ y. y ∷ drop (i + 1) ys) (sym e) in
      let t : drop (i + 1) ys ≡ drop (i + 1) xs = let r = p.rest in cc in
      record {
        one_is = p.one_is ∙ ap (λ bs. (through f g one bs).one) n ∙ step_one one x (drop (i + 1) xs);
        others_are = p.others_are ∙ ap (λ bs. take i ys ++ (through f g one bs).others) n ∙ ap (λ bs. take i ys ++ bs) (step_others one x (drop (i + 1) xs))
            ∙ sym (append_assoc (take i ys) (g x one ∷ []) (through f g (f one x) (drop (i + 1) xs)).others)
            ∙ ap (λ bs. bs ++ (through f g (f one x) (drop (i + 1) xs)).others) (sym (take_more_set ys i (g x one) h));
        rest = drop-set-lt (i + 1) ys i (g x one) (omega arith) ∙ t;
        long = length-set ys i (g x one) ∙ p.long;
      }

  pub passing_all : {op one : O} {xs ys : List O} {i : ℕ} → length xs ≤ i → Passing f g op one xs ys i →
      (one ≡ (through f g op xs).one) × (ys ≡ (through f g op xs).others)
  unfolding through
  passing_all {op} {one} {xs} {ys} {i} h p =
      let d = drop_all i xs h in
      let t : take i ys ≡ ys = take_all i ys (let l = p.long in omega arith) in (
        sym (p.one_is ∙ ap (λ bs. (through f g one bs).one) d),
        sym (p.others_are ∙ ap (λ bs. take i ys ++ (through f g one bs).others) d ∙ append-nil (take i ys) ∙ t),
      )
