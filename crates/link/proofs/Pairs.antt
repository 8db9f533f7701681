-- Numbers and sites that are spelled one after the other.
use Rattle.std.proofs.Common.{◌≡◌, ℕ, zero, suc, ◌+◌, ◌<◌, ◌≤◌, ◌&&◌, ◌==◌, Bool, true, false, leb, List, [], ◌∷◌, ◌++◌, length, get_or, take, drop, refl, sym, ap, ◌∙◌, append_assoc, arith}
use Rattle.std.specs.Int.{w32, to_be_bytes}
use Rattle.std.proofs.lemmas.Bool.{and_parts, eqb-true, leb-true}
use Rattle.std.proofs.Math.Seq.{take-add}
use Rattle.std.proofs.lemmas.Grind.{flat_map-append}
use Rattle.std.proofs.lemmas.List.{take_all, take_more, flat_map_more, take-append-drop}
use Rattle.text.specs.Texts.{Letter, paired}
use Rattle.link.specs.Letters.{are_fit, spelled_letter, spelled_letters, can_be_spelled}

pub length-paired : (xs ss : List ℕ) → length xs ≡ length ss → length (paired xs ss) ≡ length xs
unfolding paired
length-paired [] ss e = refl
length-paired (x ∷ xs) [] e = absurd (omega arith)
length-paired (x ∷ xs) (s ∷ ss) e = omega (arith, length-paired xs ss)

get_or-paired : (xs ss : List ℕ) (i : ℕ) (d : Letter) → length xs ≡ length ss → i < length xs → get_or (paired xs ss) i d ≡ record { number = get_or xs i 0; site = get_or ss i 0 }
unfolding paired
get_or-paired [] ss i d e lt = absurd (omega arith)
get_or-paired (x ∷ xs) [] i d e lt = absurd (omega arith)
get_or-paired (x ∷ xs) (s ∷ ss) zero d e lt = refl
get_or-paired (x ∷ xs) (s ∷ ss) (suc i) d e lt = get_or-paired xs ss i d (omega arith) (omega arith)

pub record Spellable (xs ss : List ℕ) : Type 0 where
  pub same : length xs ≡ length ss
  pub few : length xs ≤ 65536
  pub fit : are_fit (paired xs ss) ≡ true

pub spellable : (xs ss : List ℕ) → can_be_spelled xs ss ≡ true → Spellable xs ss
spellable xs ss e =
    let a = and_parts (length xs == length ss) (leb (length xs) 65536 && are_fit (paired xs ss)) e in
    let b = and_parts (leb (length xs) 65536) (are_fit (paired xs ss)) a.1 in
    record { same = eqb-true _ _ a.0; few = leb-true _ _ b.0; fit = b.1 }

-- one more is spelled, behind what was there
pub spelled_more : (xs ss was bytes : List ℕ) (i : ℕ) → length xs ≡ length ss → i < length xs → bytes ≡ was ++ spelled_letters (take i (paired xs ss))
    → bytes ++ (to_be_bytes w32 (get_or xs i 0) ++ get_or ss i 0 ∷ []) ≡ was ++ spelled_letters (take (i + 1) (paired xs ss))
spelled_more xs ss was bytes i e lt so_far =
    let l : Letter = record { number = get_or xs i 0; site = get_or ss i 0 } in
    let len : i < length (paired xs ss) = omega (arith, length-paired xs ss e) in
    let more : take (i + 1) (paired xs ss) ≡ take i (paired xs ss) ++ l ∷ [] = take_more _ i l len ∙ ap (λ (y : Letter). take i (paired xs ss) ++ y ∷ []) (get_or-paired xs ss i l e lt) in
    rw (so_far, more) (append_assoc was (spelled_letters (take i (paired xs ss))) (spelled_letter l) ∙ ap (λ bs. was ++ bs) (flat_map_more spelled_letter [] (take i (paired xs ss)) l))

pub spelled_all : (xs ss was bytes : List ℕ) (i : ℕ) → length xs ≡ length ss → length xs ≤ i → bytes ≡ was ++ spelled_letters (take i (paired xs ss)) → bytes ≡ was ++ spelled_letters (paired xs ss)
spelled_all xs ss was bytes i e le so_far = so_far ∙ ap (λ ls. was ++ spelled_letters ls) (take_all i (paired xs ss) (omega (arith, length-paired xs ss e)))

take-paired : (n : ℕ) (xs ss : List ℕ) → take n (paired xs ss) ≡ paired (take n xs) (take n ss)
unfolding paired
take-paired zero xs ss = refl
take-paired (suc n) [] ss = refl
take-paired (suc n) (x ∷ xs) [] = refl
take-paired (suc n) (x ∷ xs) (s ∷ ss) = ap (λ (ls : List Letter). record { number = x; site = s } ∷ ls) (take-paired n xs ss)

drop-paired : (n : ℕ) (xs ss : List ℕ) → length xs ≡ length ss → drop n (paired xs ss) ≡ paired (drop n xs) (drop n ss)
unfolding paired
drop-paired zero xs ss e = refl
drop-paired (suc n) [] ss e = refl
drop-paired (suc n) (x ∷ xs) [] e = absurd (omega arith)
drop-paired (suc n) (x ∷ xs) (s ∷ ss) e = drop-paired n xs ss (omega arith)

-- n more are spelled, behind those below k
pub spelled_more_of : (xs ss was : List ℕ) (k n : ℕ) → length xs ≡ length ss
    → (was ++ spelled_letters (take k (paired xs ss))) ++ spelled_letters (paired (take n (drop k xs)) (take n (drop k ss))) ≡ was ++ spelled_letters (take (k + n) (paired xs ss))
spelled_more_of xs ss was k n e =
    let ls = paired xs ss in
    let more : paired (take n (drop k xs)) (take n (drop k ss)) ≡ take n (drop k ls) = rw (drop-paired k xs ss e) (sym (take-paired n (drop k xs) (drop k ss))) in
    let both : spelled_letters (take (k + n) ls) ≡ spelled_letters (take k ls) ++ spelled_letters (take n (drop k ls)) = rw (take-add k n ls) (flat_map-append spelled_letter (take k ls) (take n (drop k ls))) in
    rw (more, both) (append_assoc was (spelled_letters (take k ls)) (spelled_letters (take n (drop k ls))))

-- all that is left is spelled, behind those below k
pub spelled_rest : (xs ss was : List ℕ) (k : ℕ) → length xs ≡ length ss
    → (was ++ spelled_letters (take k (paired xs ss))) ++ spelled_letters (paired (drop k xs) (drop k ss)) ≡ was ++ spelled_letters (paired xs ss)
spelled_rest xs ss was k e =
    let ls = paired xs ss in
    let both : spelled_letters (take k ls) ++ spelled_letters (drop k ls) ≡ spelled_letters ls = sym (flat_map-append spelled_letter (take k ls) (drop k ls)) ∙ ap (λ (x : List Letter). spelled_letters x) (take-append-drop k ls) in
    rw (← drop-paired k xs ss e) (append_assoc was (spelled_letters (take k ls)) (spelled_letters (drop k ls)) ∙ ap (λ bs. was ++ bs) both)

-- what can be spelled, of a site that there is, can be said
pub can_be_said : (i : ℕ) (xs ss : List ℕ) → leb i 15 ≡ true → can_be_spelled xs ss ≡ ((length xs == length ss) && (leb i 15 && (leb (length (paired xs ss)) 65536 && are_fit (paired xs ss))))
can_be_said i xs ss site = same (length xs == length ss) refl
  where
    same : (b : Bool) → (length xs == length ss) ≡ b → (b && (leb (length xs) 65536 && are_fit (paired xs ss))) ≡ (b && (leb i 15 && (leb (length (paired xs ss)) 65536 && are_fit (paired xs ss))))
    same true e = rw (site, length-paired xs ss (eqb-true _ _ e)) refl
    same false e = refl

pub said_spelled : (i : ℕ) (xs ss : List ℕ) → ((length xs == length ss) && (leb i 15 && (leb (length (paired xs ss)) 65536 && are_fit (paired xs ss)))) ≡ true → can_be_spelled xs ss ≡ true
said_spelled i xs ss e =
    let rest = and_parts (length xs == length ss) (leb i 15 && (leb (length (paired xs ss)) 65536 && are_fit (paired xs ss))) e in
    can_be_said i xs ss (and_parts (leb i 15) (leb (length (paired xs ss)) 65536 && are_fit (paired xs ss)) rest.1).0 ∙ e
