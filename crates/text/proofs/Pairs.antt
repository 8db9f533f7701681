-- Letters and sites side by side are edited as one text.
use Rattle.std.proofs.Common.{◌≡◌, ℕ, zero, suc, ◌-◌, ◌<◌, ◌≤◌, min, List, [], ◌∷◌, ◌++◌, length, take, sym, refl, ap, ◌∙◌, ap₂, arith}
use Rattle.std.proofs.lemmas.List.{length-take-le, length-append, take_at}
use Rattle.operation.specs.Edits.{insert_at, delete_at}
use Rattle.text.specs.Texts.{paired, numbers, authors}

pub length-paired : (xs ss : List ℕ) → length (paired xs ss) ≡ min (length xs) (length ss)
unfolding paired
length-paired [] ss = omega arith
length-paired (x ∷ xs) [] = omega arith
length-paired (x ∷ xs) (s ∷ ss) = omega (arith, length-paired xs ss)

pub take-paired : (n : ℕ) (xs ss : List ℕ) → take n (paired xs ss) ≡ paired (take n xs) (take n ss)
unfolding paired
take-paired zero xs ss = refl
take-paired (suc n) [] ss = refl
take-paired (suc n) (x ∷ xs) [] = refl
take-paired (suc n) (x ∷ xs) (s ∷ ss) = ap (◌∷◌ (record { number = x; site = s })) (take-paired n xs ss)

paired-insert_at : (p x s : ℕ) (xs ss : List ℕ) → p ≤ length xs → p ≤ length ss →
    paired (insert_at p x xs) (insert_at p s ss) ≡ insert_at p (record { number = x; site = s }) (paired xs ss)
unfolding paired insert_at
paired-insert_at zero x s xs ss h k = refl
paired-insert_at (suc p) x s [] ss h k = absurd (omega arith)
paired-insert_at (suc p) x s (y ∷ xs) [] h k = absurd (omega arith)
paired-insert_at (suc p) x s (y ∷ xs) (r ∷ ss) h k = ap (◌∷◌ (record { number = y; site = r })) (paired-insert_at p x s xs ss (omega arith) (omega arith))

paired-delete_at : (p : ℕ) (xs ss : List ℕ) → p < length xs → p < length ss → paired (delete_at p xs) (delete_at p ss) ≡ delete_at p (paired xs ss)
unfolding paired delete_at
paired-delete_at p [] ss h k = absurd (omega arith)
paired-delete_at p (y ∷ xs) [] h k = absurd (omega arith)
paired-delete_at zero (y ∷ xs) (r ∷ ss) h k = refl
paired-delete_at (suc p) (y ∷ xs) (r ∷ ss) h k = ap (◌∷◌ (record { number = y; site = r })) (paired-delete_at p xs ss (omega arith) (omega arith))

pub numbers-paired : (xs ss : List ℕ) → length xs ≡ length ss → numbers (paired xs ss) ≡ xs
unfolding paired
numbers-paired [] ss h = refl
numbers-paired (x ∷ xs) [] h = absurd (omega arith)
numbers-paired (x ∷ xs) (s ∷ ss) h = ap (◌∷◌ x) (numbers-paired xs ss (omega arith))

pub authors-paired : (xs ss : List ℕ) → length xs ≡ length ss → authors (paired xs ss) ≡ ss
unfolding paired
authors-paired [] [] h = refl
authors-paired [] (s ∷ ss) h = absurd (omega arith)
authors-paired (x ∷ xs) [] h = absurd (omega arith)
authors-paired (x ∷ xs) (s ∷ ss) h = ap (◌∷◌ s) (authors-paired xs ss (omega arith))

-- both lists edited at one place
pub pairs-inserted : (n : ℕ) (xs ss ys rs : List ℕ) (p x s : ℕ) → p ≤ n → n ≤ length xs → n ≤ length ss →
    ys ≡ insert_at p x (take n xs) → rs ≡ insert_at p s (take n ss) →
    paired ys rs ≡ insert_at p (record { number = x; site = s }) (take n (paired xs ss))
pairs-inserted n xs ss ys rs p x s h k l e f =
    let a = length-take-le n xs k in
    let b = length-take-le n ss l in
    ap₂ paired e f ∙ paired-insert_at p x s (take n xs) (take n ss) (omega arith) (omega arith)
    ∙ ap (insert_at p (record { number = x; site = s })) (sym (take-paired n xs ss))

pub pairs-deleted : (n : ℕ) (xs ss ys rs : List ℕ) (p : ℕ) → p < length xs → p < length ss →
    take n ys ≡ delete_at p xs → take n rs ≡ delete_at p ss → take n (paired ys rs) ≡ delete_at p (paired xs ss)
pairs-deleted n xs ss ys rs p h k e f = take-paired n ys rs ∙ ap₂ paired e f ∙ paired-delete_at p xs ss h k

-- the pairs without the last of both
pub paired-pushed : (xs ss : List ℕ) (x s : ℕ) → length xs ≡ length ss →
    take (length (xs ++ x ∷ []) - 1) (paired (xs ++ x ∷ []) (ss ++ s ∷ [])) ≡ paired xs ss
paired-pushed xs ss x s h =
    let l = length-append xs (x ∷ []) in
    take-paired (length (xs ++ x ∷ []) - 1) (xs ++ x ∷ []) (ss ++ s ∷ [])
    ∙ ap₂ paired (take_at xs (x ∷ []) (length (xs ++ x ∷ []) - 1) (omega arith)) (take_at ss (s ∷ []) (length (xs ++ x ∷ []) - 1) (omega arith))
