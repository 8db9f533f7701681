-- The higher and the lower of two vectors, lane by lane, and a test of every lane.
use Rattle.std.proofs.Common.{◌≡◌, ℕ, suc, ◌+◌, ◌*◌, ◌^◌, ◌-◌, ◌%◌, ◌<◌, ◌≤◌, ◌&&◌, Bool, true, false, cond, leb, ltb, eqb, List, [], ◌∷◌, map, length, get_or, take, refl, sym, ◌∙◌, arith}
use Rattle.std.specs.Int.{Width}
use Rattle.std.specs.List.{list_all}
use lib.Lanes.{Each1, zip2, sel_l, mask_l, top, digits_l, number_l, chunk}
use mir.Val.{bits, hbits}
use Rattle.std.proofs.Math.Nat.{one-le-pow, pow-succ'}
use Rattle.std.proofs.lemmas.Bool.{eq-eqb, ne_eqb}
use Rattle.std.proofs.lemmas.Bool.Decides.{nat_tests}
use Rattle.std.proofs.lemmas.Simd.{get_or_wider, length-zip2, tops_compared, mask_l-mod}
use Rattle.link.proofs.Fitness.{regroup}

-- every lane of the first is at most that of the second
abbrev pub all_le : List ℕ → List ℕ → Bool
all_le xs ys = list_all (λ b. b) (zip2 leb xs ys)

-- a test of each lane as vectors keep it
abbrev pub lanes_of : Width → (ℕ → ℕ → Bool) → List ℕ → List ℕ → List Bool
lanes_of w t xs ys = map (top (hbits w)) (zip2 (λ a b. cond (t a b) (2 ^ bits w - 1) 0) xs ys)

-- what `simd_max` and `simd_min` give
abbrev pub higher : Width → List ℕ → List ℕ → List ℕ
higher w xs ys = sel_l (lanes_of w ltb xs ys) ys xs

abbrev pub lower : Width → List ℕ → List ℕ → List ℕ
lower w xs ys = sel_l (lanes_of w ltb xs ys) xs ys

higher_le : (x y l : ℕ) → leb (cond (ltb x y) y x) l ≡ (leb x l && leb y l)
higher_le x y l = grind (arith, nat_tests)

highest_le : (xs ys ls : List ℕ) → length xs ≡ length ls → length ys ≡ length ls → all_le (sel_l (zip2 ltb xs ys) ys xs) ls ≡ (all_le xs ls && all_le ys ls)
highest_le [] [] [] e f = refl
highest_le (x ∷ xs) (y ∷ ys) (l ∷ ls) e f = rw (higher_le x y l, highest_le xs ys ls (omega arith) (omega arith)) (regroup (leb x l) (leb y l) (all_le xs ls) (all_le ys ls))
highest_le [] (y ∷ ys) [] e f = absurd (omega arith)
highest_le (x ∷ xs) ys [] e f = absurd (omega arith)
highest_le [] ys (l ∷ ls) e f = absurd (omega arith)
highest_le (x ∷ xs) [] (l ∷ ls) e f = absurd (omega arith)

-- the higher of two is within limits if both are
pub all_le-higher : (w : Width) (xs ys ls : List ℕ) → length xs ≡ length ls → length ys ≡ length ls → all_le (higher w xs ys) ls ≡ (all_le xs ls && all_le ys ls)
all_le-higher w xs ys ls e f = rw (tops_compared w ltb xs ys) (highest_le xs ys ls e f)

lower_ge : (x y l : ℕ) → leb l (cond (ltb x y) x y) ≡ (leb l x && leb l y)
lower_ge x y l = grind (arith, nat_tests)

lowest_ge : (ls xs ys : List ℕ) → length xs ≡ length ls → length ys ≡ length ls → all_le ls (sel_l (zip2 ltb xs ys) xs ys) ≡ (all_le ls xs && all_le ls ys)
lowest_ge [] [] [] e f = refl
lowest_ge (l ∷ ls) (x ∷ xs) (y ∷ ys) e f = rw (lower_ge x y l, lowest_ge ls xs ys (omega arith) (omega arith)) (regroup (leb l x) (leb l y) (all_le ls xs) (all_le ls ys))
lowest_ge [] [] (y ∷ ys) e f = absurd (omega arith)
lowest_ge [] (x ∷ xs) ys e f = absurd (omega arith)
lowest_ge (l ∷ ls) [] ys e f = absurd (omega arith)
lowest_ge (l ∷ ls) (x ∷ xs) [] e f = absurd (omega arith)

-- the lower of two reaches limits if both do
pub all_le-lower : (w : Width) (ls xs ys : List ℕ) → length xs ≡ length ls → length ys ≡ length ls → all_le ls (lower w xs ys) ≡ (all_le ls xs && all_le ls ys)
all_le-lower w ls xs ys e f = rw (tops_compared w ltb xs ys) (lowest_ge ls xs ys e f)

odd_same : (m k h : ℕ) → k ≡ 2 * h + 1 → eqb (1 + 2 * m) k ≡ eqb m h
odd_same m k h e = grind (arith, nat_tests)

-- a mask is full if each of its bits is set
full_mask : (ms : List Bool) (k : ℕ) → suc k ≡ 2 ^ length ms → eqb (mask_l ms) k ≡ list_all (λ b. b) ms
full_mask [] k e = eq-eqb 0 k (omega arith)
full_mask (true ∷ ms) k e =
    let h = 2 ^ length ms - 1 in
    let some : 1 ≤ 2 ^ length ms = one-le-pow (length ms) 2 (omega arith) in
    let half : k ≡ 2 * h + 1 = omega (arith, pow-succ' 2 (length ms)) in
    odd_same (mask_l ms) k h half ∙ full_mask ms h (omega arith)
full_mask (false ∷ ms) k e = ne_eqb (0 + 2 * mask_l ms) k (λ f. omega (arith, pow-succ' 2 (length ms)))

-- what `all` says of `simd_le`, of n lanes
pub all_lanes : (w : Width) (xs ys : List ℕ) (n k : ℕ) → length xs ≡ n → length ys ≡ n → n ≤ 64 → suc k ≡ 2 ^ n → eqb (mask_l (lanes_of w leb xs ys) % 2 ^ 64) k ≡ all_le xs ys
all_lanes w xs ys n k e f few full =
    let len : length (zip2 leb xs ys) ≡ n = length-zip2 leb xs ys (e ∙ sym f) ∙ e in
    rw (tops_compared w leb xs ys, mask_l-mod (zip2 leb xs ys) 64 (omega arith)) (full_mask (zip2 leb xs ys) k (rw len full))

-- sixteen bytes are four numbers, each with its low byte first
pub fours : (xs : List ℕ) → Each1 (λ x. x < 256) xs → digits_l (2 ^ 32) 4 (number_l 256 xs) ≡ number_l 256 (take 4 xs) ∷ number_l 256 (chunk 4 4 xs) ∷ number_l 256 (chunk 8 4 xs) ∷ number_l 256 (chunk 12 4 xs) ∷ []
fours xs fits =
    let lane : (j : ℕ) → j < 4 → get_or (digits_l (2 ^ 32) 4 (number_l 256 xs)) j 0 ≡ number_l 256 (chunk (4 * j) 4 xs) = λ j lt. get_or_wider 256 4 (2 ^ 32) 4 xs j refl fits lt in
    let a = lane 0 (omega arith) in
    let b = lane 1 (omega arith) in
    let c = lane 2 (omega arith) in
    let d = lane 3 (omega arith) in
    cc
