-- Letters that are read in windows of sixteen bytes, which are tested by the highest byte of each place and the least number of each letter.
use Rattle.std.proofs.Common.{◌≡◌, ℕ, zero, suc, ◌+◌, ◌*◌, ◌^◌, ◌%◌, ◌<◌, ◌≤◌, ◌&&◌, ◌==◌, Bool, true, false, leb, List, [], ◌∷◌, ◌++◌, map, length, get_or, take, drop, refl, sym, ap, subst, ◌∙◌, arith}
use Rattle.std.specs.Int.{w8, w32, from_be_bytes}
use Rattle.std.specs.List.{range_with_len}
use lib.Lanes.{Each1, mask_l, pick_l, digits_l, number_l, chunk}
use Rattle.std.proofs.Math.Seq.{take-add}
use Rattle.std.proofs.lemmas.Bool.{le-leb}
use Rattle.std.proofs.lemmas.Bool.Decides.{nat_tests}
use Rattle.std.proofs.lemmas.List.{take-append-drop, drop-drop, length-drop}
use Rattle.std.proofs.lemmas.List.Folds.{list_all-append}
use Rattle.std.proofs.lemmas.Simd.{length-chunk, pick_l_whole}
use Rattle.text.specs.Texts.{Letter}
use Rattle.link.specs.Letters.{is_fit_letter, are_fit, letters_at, are_letters}
use Rattle.link.proofs.FiveBytes.{IsBytes, IsBytes-drop, IsBytes-take}
use Rattle.link.proofs.Fitness.{regroup}
use Rattle.link.proofs.Lanes.{all_le, lanes_of, higher, lower, all_le-higher, all_le-lower, all_lanes, fours}

-- ---- a letter by its bytes, which are those of x from place k on

-- they are at most those of the highest letter
abbrev within : (ℕ → ℕ) → ℕ → Bool
within x k = leb (x k) 0 && (leb (x (k + 1)) 16 && (leb (x (k + 2)) 255 && (leb (x (k + 3)) 255 && leb (x (k + 4)) 15)))

-- its number with the bytes in the other order
abbrev low_first : (ℕ → ℕ) → ℕ → ℕ
low_first x k = number_l 256 (x k ∷ x (k + 1) ∷ x (k + 2) ∷ x (k + 3) ∷ [])

abbrev pub letter_of : (ℕ → ℕ) → ℕ → Letter
letter_of x k = record { number = from_be_bytes w32 (x k ∷ x (k + 1) ∷ x (k + 2) ∷ x (k + 3) ∷ []); site = x (k + 4) }

fit_by_bytes : (a b c d s : ℕ) → a < 256 → b < 256 → c < 256 → d < 256 →
    ((leb a 0 && (leb b 16 && (leb c 255 && (leb d 255 && leb s 15)))) && leb 1 (number_l 256 (a ∷ b ∷ c ∷ d ∷ []))) ≡ is_fit_letter (record { number = from_be_bytes w32 (a ∷ b ∷ c ∷ d ∷ []); site = s })
fit_by_bytes a b c d s fa fb fc fd = grind (arith, nat_tests)

-- that, and that its number is not 0 in the other order, is what makes it fit
fit_at : (x : ℕ → ℕ) → ((i : ℕ) → x i < 256) → (k : ℕ) → (within x k && leb 1 (low_first x k)) ≡ is_fit_letter (letter_of x k)
fit_at x h k = fit_by_bytes (x k) (x (k + 1)) (x (k + 2)) (x (k + 3)) (x (k + 4)) (h k) (h (k + 1)) (h (k + 2)) (h (k + 3))

by_five : (a b c d e r : Bool) → (a && (b && (c && (d && (e && r))))) ≡ ((a && (b && (c && (d && e)))) && r)
by_five true true true true e r = refl
by_five true true true false e r = refl
by_five true true false d e r = refl
by_five true false c d e r = refl
by_five false b c d e r = refl

-- the first five tests are those of one letter
within_first : (x : ℕ → ℕ) (k : ℕ) (r : Bool) → (leb (x k) 0 && (leb (x (k + 1)) 16 && (leb (x (k + 2)) 255 && (leb (x (k + 3)) 255 && (leb (x (k + 4)) 15 && r))))) ≡ (within x k && r)
within_first x k r = by_five (leb (x k) 0) (leb (x (k + 1)) 16) (leb (x (k + 2)) 255) (leb (x (k + 3)) 255) (leb (x (k + 4)) 15) r

last_twice : (p q t : Bool) → t ≡ true → ((p && (t && true)) && (q && (q && true))) ≡ ((p && q) && true)
last_twice true true true e = refl
last_twice true false true e = refl
last_twice false q true e = refl
last_twice p q false e = absurd cc

-- three tests of each kind are three pairs of tests
three_pairs : (a b c p q r t : Bool) → t ≡ true → ((a && (b && (c && (t && true)))) && (p && (q && (r && (r && true))))) ≡ ((a && p) && ((b && q) && ((c && r) && true)))
three_pairs a b c p q r t e =
    regroup a (b && (c && (t && true))) p (q && (r && (r && true)))
    ∙ ap (λ (x : Bool). (a && p) && x) (regroup b (c && (t && true)) q (r && (r && true)))
    ∙ ap (λ (x : Bool). (a && p) && ((b && q) && x)) (last_twice c r t e)

-- ---- a window, which has three letters and a byte more

abbrev pub highest_bytes : List ℕ
highest_bytes = 0 ∷ 16 ∷ 255 ∷ 255 ∷ 15 ∷ 0 ∷ 16 ∷ 255 ∷ 255 ∷ 15 ∷ 0 ∷ 16 ∷ 255 ∷ 255 ∷ 15 ∷ 255 ∷ []

abbrev pub ones : List ℕ
ones = 1 ∷ 1 ∷ 1 ∷ 1 ∷ []

abbrev pub number_places : List ℕ
number_places = 0 ∷ 1 ∷ 2 ∷ 3 ∷ 5 ∷ 6 ∷ 7 ∷ 8 ∷ 10 ∷ 11 ∷ 12 ∷ 13 ∷ 10 ∷ 11 ∷ 12 ∷ 13 ∷ []

-- the numbers of its letters in the other order, and the last one twice
abbrev pub numbers_in : List ℕ → List ℕ
numbers_in window = digits_l (2 ^ 32) 4 (number_l 256 (pick_l 0 (window ++ window) number_places))

-- the tests of the highest bytes and of the least numbers
abbrev pub pass : List ℕ → List ℕ → Bool
pass highest least = all_le highest highest_bytes && all_le ones least

bytes_picked : (x : ℕ → ℕ) → ((i : ℕ) → x i < 256) → (ks : List ℕ) → Each1 (λ b. b < 256) (map x ks)
bytes_picked x h [] = tt
bytes_picked x h (k ∷ ks) = (h k, bytes_picked x h ks)

three_letters : (x : ℕ → ℕ) (rest : List ℕ) → ((i : ℕ) → x i < 256) →
    pass (map x (range_with_len 0 16)) (numbers_in (map x (range_with_len 0 16))) ≡ are_fit (take 3 (letters_at (map x (range_with_len 0 16) ++ rest)))
unfolding letters_at
three_letters x rest h =
    let window = map x (range_with_len 0 16) in
    let numbers : numbers_in window ≡ low_first x 0 ∷ low_first x 5 ∷ low_first x 10 ∷ low_first x 10 ∷ [] = fours (map x number_places) (bytes_picked x h number_places) in
    let p = leb 1 (low_first x 0) in
    let q = leb 1 (low_first x 5) in
    let r = leb 1 (low_first x 10) in
    let by_letters : all_le window highest_bytes ≡ (within x 0 && (within x 5 && (within x 10 && (leb (x 15) 255 && true)))) =
    within_first x 0 _ ∙ ap (λ (b : Bool). within x 0 && b) (within_first x 5 _ ∙ ap (λ (b : Bool). within x 5 && b) (within_first x 10 (leb (x 15) 255 && true)))
    in
    let any : leb (x 15) 255 ≡ true = le-leb (x 15) 255 (omega (arith, h 15)) in
    ap (λ (ns : List ℕ). all_le window highest_bytes && all_le ones ns) numbers
    ∙ ap (λ (b : Bool). b && (p && (q && (r && (r && true))))) by_letters
    ∙ three_pairs (within x 0) (within x 5) (within x 10) p q r (leb (x 15) 255) any
    ∙ rw (fit_at x h 0, fit_at x h 5, fit_at x h 10) refl

-- its letters are fit if it passes
fit_window : (bytes : List ℕ) → IsBytes bytes → 16 ≤ length bytes → pass (take 16 bytes) (numbers_in (take 16 bytes)) ≡ are_fit (take 3 (letters_at bytes))
fit_window bytes h room =
    let spelled = pick_l_whole 0 (take 16 bytes) 16 (length-chunk 0 16 bytes room) in
    let here = three_letters (λ k. get_or (take 16 bytes) k 0) (drop 16 bytes) (IsBytes-take 16 bytes h) in
    subst (λ (window : List ℕ). pass window (numbers_in window) ≡ are_fit (take 3 (letters_at (window ++ drop 16 bytes)))) spelled here
    ∙ ap (λ (bs : List ℕ). are_fit (take 3 (letters_at bs))) (take-append-drop 16 bytes)

-- ---- letters behind others

letters_at-drop_five : (bytes : List ℕ) → letters_at (drop 5 bytes) ≡ drop 1 (letters_at bytes)
unfolding letters_at
letters_at-drop_five [] = refl
letters_at-drop_five (a ∷ []) = refl
letters_at-drop_five (a ∷ b ∷ []) = refl
letters_at-drop_five (a ∷ b ∷ c ∷ []) = refl
letters_at-drop_five (a ∷ b ∷ c ∷ d ∷ []) = refl
letters_at-drop_five (a ∷ b ∷ c ∷ d ∷ i ∷ rest) = refl

pub letters_at-drop : (k at : ℕ) (bytes : List ℕ) → at ≡ k * 5 → letters_at (drop at bytes) ≡ drop k (letters_at bytes)
letters_at-drop zero at bytes e =
    let none : at ≡ 0 = omega arith in
    ap (λ (n : ℕ). letters_at (drop n bytes)) none
letters_at-drop (suc k) at bytes e =
    let five_more : at ≡ 5 + k * 5 = omega arith in
    let one_more : 1 + k ≡ suc k = omega arith in
    ap (λ (n : ℕ). letters_at (drop n bytes)) five_more
    ∙ ap letters_at (sym (drop-drop (k * 5) 5 bytes))
    ∙ letters_at-drop k (k * 5) (drop 5 bytes) refl
    ∙ ap (λ (ls : List Letter). drop k ls) (letters_at-drop_five bytes)
    ∙ drop-drop k 1 (letters_at bytes)
    ∙ ap (λ (n : ℕ). drop n (letters_at bytes)) one_more

fit_more : (k n at all : ℕ) (bytes : List ℕ) → at ≡ k * 5 → all ≡ k + n → are_fit (take all (letters_at bytes)) ≡ (are_fit (take k (letters_at bytes)) && are_fit (take n (letters_at (drop at bytes))))
fit_more k n at all bytes e f =
    let ls = letters_at bytes in
    ap (λ (m : ℕ). are_fit (take m ls)) f
    ∙ ap are_fit (take-add k n ls)
    ∙ list_all-append is_fit_letter (take k ls) (take n (drop k ls))
    ∙ ap (λ (rest : List Letter). are_fit (take k ls) && are_fit (take n rest)) (sym (letters_at-drop k at bytes e))

and_swap : (a b c : Bool) → (a && (b && c)) ≡ (b && (a && c))
and_swap true b c = refl
and_swap false true c = refl
and_swap false false c = refl

-- bytes are letters if the first of their letters are fit and the bytes behind those are letters
pub letters_in_two : (bytes : List ℕ) (k : ℕ) → 15 * k ≤ length bytes → (are_fit (take (k * 3) (letters_at bytes)) && are_letters (drop (15 * k) bytes)) ≡ are_letters bytes
unfolding are_letters
letters_in_two bytes k room =
    let ls = letters_at bytes in
    let whole : length (drop (15 * k) bytes) % 5 ≡ length bytes % 5 = omega (arith, length-drop (15 * k) bytes) in
    let parts : are_fit ls ≡ (are_fit (take (k * 3) ls) && are_fit (drop (k * 3) ls)) =
    ap are_fit (sym (take-append-drop (k * 3) ls)) ∙ list_all-append is_fit_letter (take (k * 3) ls) (drop (k * 3) ls)
    in
    let rest : letters_at (drop (15 * k) bytes) ≡ drop (k * 3) ls = letters_at-drop (k * 3) (15 * k) bytes (omega arith) in
    rw (parts, whole, rest) (and_swap (are_fit (take (k * 3) ls)) (length bytes % 5 == 0) (are_fit (drop (k * 3) ls)))

-- ---- a loop over windows

-- one more window is read
pub window_more : (bytes highest least : List ℕ) (i : ℕ) → IsBytes bytes → 15 * i + 16 ≤ length bytes → length highest ≡ 16 → length least ≡ 4
    → pass highest least ≡ are_fit (take (i * 3) (letters_at bytes))
    → pass (higher w8 highest (chunk (15 * i) 16 bytes)) (lower w32 least (numbers_in (chunk (15 * i) 16 bytes))) ≡ are_fit (take ((i + 1) * 3) (letters_at bytes))
window_more bytes highest least i h room len-highest len-least so_far =
    let window = chunk (15 * i) 16 bytes in
    let high = all_le-higher w8 highest window highest_bytes len-highest (length-chunk (15 * i) 16 bytes room) in
    let low = all_le-lower w32 ones least (numbers_in window) len-least refl in
    let here = fit_window (drop (15 * i) bytes) (IsBytes-drop (15 * i) bytes h) (omega (arith, length-drop (15 * i) bytes)) in
    let more = fit_more (i * 3) 3 (15 * i) ((i + 1) * 3) bytes (omega arith) (omega arith) in
    rw (high, low) (regroup (all_le highest highest_bytes) (all_le window highest_bytes) (all_le ones least) (all_le ones (numbers_in window)))
    ∙ ap (λ (b : Bool). b && pass window (numbers_in window)) so_far
    ∙ ap (λ (b : Bool). are_fit (take (i * 3) (letters_at bytes)) && b) here
    ∙ sym more

-- the tests as the vectors make them
pub pass_all : (highest least : List ℕ) → length highest ≡ 16 → length least ≡ 4
    → ((mask_l (lanes_of w8 leb highest highest_bytes) % 2 ^ 64 == 65535) && (mask_l (lanes_of w32 leb ones least) % 2 ^ 64 == 15)) ≡ pass highest least
pass_all highest least e f =
    rw (all_lanes w8 highest highest_bytes 16 65535 e refl (omega arith) refl, all_lanes w32 ones least 4 15 refl f (omega arith) refl) refl
