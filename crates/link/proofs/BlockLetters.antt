-- The numbers and the sites of sixteen letters, found in their bytes by their places, and the loop over blocks.
use Rattle.std.proofs.Common.{◌≡◌, ℕ, zero, suc, ◌+◌, ◌-◌, ◌*◌, ◌/◌, ◌%◌, ◌<◌, ◌≤◌, List, [], ◌∷◌, ◌++◌, map, length, get_or, take, drop, nat_lt, append_assoc, refl, sym, ap, ◌∙◌, subst, arith}
use Rattle.std.specs.Prelude.{cond}
use Rattle.std.specs.List.{flat_map, range_with_len}
use Rattle.std.specs.Int.{w32, from_be_bytes}
use Rattle.std.specs.Simd.{first_chunks}
use Rattle.std.specs.Simd.Lanes.{chunk, put_chunk, pick_l, digits_l, number_l}
use borrow.Rule.Slice.PartMut.{put_mid, mid_of, post_of}
use Rattle.std.proofs.Math.Seq.{take-add}
use Rattle.std.proofs.lemmas.List.{append-nil, take_all, take_at, drop_at, drop_all, drop-drop, length-map, map-append, length-drop, length-take-le}
use Rattle.std.proofs.lemmas.Simd.{pick_l_whole, put_chunk_is}
use Rattle.text.specs.Texts.{Letter, numbers, authors}
use Rattle.link.specs.Letters.{letters_at, over}
use Rattle.link.proofs.FiveBytes.{IsBytes, length_by_fives}
use Rattle.link.proofs.Chunks.{chunk_at, written}
use Rattle.link.proofs.Windows.{letter_of, letters_at-drop}

-- a number of four bytes, the low one first, before others
number_first : (a b c d n m : ℕ) → a < 256 → b < 256 → c < 256 → d < 256
    → digits_l 4294967296 (suc n) (number_l 256 (d ∷ c ∷ b ∷ a ∷ []) + 4294967296 * m) ≡ from_be_bytes w32 (a ∷ b ∷ c ∷ d ∷ []) ∷ digits_l 4294967296 n m
number_first a b c d n m fa fb fc fd =
    let all = number_l 256 (d ∷ c ∷ b ∷ a ∷ []) + 4294967296 * m in
    let low : all % 4294967296 ≡ from_be_bytes w32 (a ∷ b ∷ c ∷ d ∷ []) = omega (arith, fa, fb, fc, fd) in
    let rest : all / 4294967296 ≡ m = omega (arith, fa, fb, fc, fd) in
    rw (low, rest) refl

-- the bytes of the number of letter k, the low one first
abbrev low_first : (ℕ → ℕ) → ℕ → List ℕ
low_first x k = x (5 * k + 3) ∷ x (5 * k + 2) ∷ x (5 * k + 1) ∷ x (5 * k) ∷ []

numbers_by_fours : (x : ℕ → ℕ) → ((i : ℕ) → x i < 256) → (ks : List ℕ)
    → digits_l 4294967296 (length ks) (number_l 256 (flat_map (low_first x) ks)) ≡ numbers (map (λ k. letter_of x (5 * k)) ks)
numbers_by_fours x fits [] = refl
numbers_by_fours x fits (k ∷ ks) =
    let m = number_l 256 (flat_map (low_first x) ks) in
    let four : number_l 256 (flat_map (low_first x) (k ∷ ks)) ≡ number_l 256 (low_first x k) + 4294967296 * m = omega arith in
    rw (four, number_first (x (5 * k)) (x (5 * k + 1)) (x (5 * k + 2)) (x (5 * k + 3)) (length ks) m (fits _) (fits _) (fits _) (fits _), numbers_by_fours x fits ks) refl

-- where byte i of a block is found, in its first 64 bytes and behind them its last 64
abbrev place : ℕ → ℕ
place i = cond (nat_lt i 64) i (i + 48)

abbrev pub at_places : List ℕ → List ℕ → List ℕ → List ℕ
at_places first bytes places = pick_l 0 (chunk 0 64 first ++ chunk 0 64 (take 64 (drop 16 bytes))) places

abbrev pub block_numbers : List ℕ → List ℕ → List ℕ
block_numbers first bytes = digits_l 4294967296 16 (number_l 256 (at_places first bytes (flat_map (low_first place) (range_with_len 0 16))))

abbrev pub block_sites : List ℕ → List ℕ → List ℕ
block_sites first bytes = at_places first bytes (map (λ k. place (5 * k + 4)) (range_with_len 0 16))

numbers_at_places : (bytes : List ℕ) → length bytes ≡ 80 → IsBytes bytes → block_numbers bytes bytes ≡ numbers (letters_at bytes)
unfolding letters_at
numbers_at_places bytes e fits =
    subst (λ bs. block_numbers bs bs ≡ numbers (letters_at bs)) (pick_l_whole 0 bytes 80 e) (numbers_by_fours (λ i. get_or bytes i 0) fits (range_with_len 0 16))

sites_at_places : (bytes : List ℕ) → length bytes ≡ 80 → block_sites bytes bytes ≡ authors (letters_at bytes)
unfolding letters_at
sites_at_places bytes e = subst (λ bs. block_sites bs bs ≡ authors (letters_at bs)) (pick_l_whole 0 bytes 80 e) refl

-- the numbers of a block are written
pub numbers_taken : (first bytes olds : List ℕ) → first ≡ bytes → length bytes ≡ 80 → IsBytes bytes → 16 ≤ length olds
    → put_chunk 0 olds (block_numbers first bytes) ≡ over (numbers (letters_at bytes)) olds
numbers_taken first bytes olds same e fits room =
    put_chunk_is 0 olds (block_numbers first bytes) room ∙ rw same (ap (λ xs. over xs olds) (numbers_at_places bytes e fits))

-- and the sites
pub sites_taken : (first bytes olds : List ℕ) → first ≡ bytes → length bytes ≡ 80 → 16 ≤ length olds
    → put_chunk 0 olds (block_sites first bytes) ≡ over (authors (letters_at bytes)) olds
sites_taken first bytes olds same e room =
    put_chunk_is 0 olds (block_sites first bytes) room ∙ rw same (ap (λ xs. over xs olds) (sites_at_places bytes e))

-- ---- the loop over blocks

take_five_more : (m k : ℕ) → ((bytes : List ℕ) → letters_at (take m bytes) ≡ take k (letters_at bytes)) → (bytes : List ℕ)
    → letters_at (take (suc (suc (suc (suc (suc m))))) bytes) ≡ take (suc k) (letters_at bytes)
unfolding letters_at
take_five_more m k h [] = refl
take_five_more m k h (a ∷ []) = refl
take_five_more m k h (a ∷ b ∷ []) = refl
take_five_more m k h (a ∷ b ∷ c ∷ []) = refl
take_five_more m k h (a ∷ b ∷ c ∷ d ∷ []) = refl
take_five_more m k h (a ∷ b ∷ c ∷ d ∷ i ∷ rest) = ap (λ (ls : List Letter). record { number = from_be_bytes w32 (a ∷ b ∷ c ∷ d ∷ []); site = i } ∷ ls) (h rest)

letters_at-take : (k : ℕ) (bytes : List ℕ) → letters_at (take (k * 5) bytes) ≡ take k (letters_at bytes)
unfolding letters_at
letters_at-take zero bytes = refl
letters_at-take (suc k) bytes =
    let five_more : suc k * 5 ≡ suc (suc (suc (suc (suc (k * 5))))) = omega arith in
    rw five_more (take_five_more (k * 5) k (letters_at-take k) bytes)

-- the n letters of a part are written behind those below k
written_part : (f : Letter → ℕ) (bytes part olds news put : List ℕ) (k n : ℕ) → letters_at part ≡ take n (drop k (letters_at bytes)) → k + n ≤ length (letters_at bytes)
    → news ≡ written f bytes k olds → put ≡ over (map f (letters_at part)) (mid_of k (length news - k) news)
    → put_mid k (length news - k) news put ≡ written f bytes (k + n) olds
written_part f bytes part olds news put k n is room so_far putted =
    let ls = letters_at bytes in
    let front = map f (take k ls) in
    let more = map f (take n (drop k ls)) in
    let front_len : length front ≡ k = rw (length-map, length-take-le k ls (omega arith)) refl in
    let more_len : length more ≡ n = rw (length-map, length-take-le n (drop k ls) (omega (arith, length-drop k ls))) refl in
    let before : take k news ≡ front = rw so_far (take_at front (drop k olds) k front_len) in
    let behind : drop k news ≡ drop k olds = rw so_far (drop_at front (drop k olds) k front_len) in
    let whole : mid_of k (length news - k) news ≡ drop k olds = take_all (length news - k) (drop k news) (omega (arith, length-drop k news)) ∙ behind in
    let none : post_of k (length news - k) news ≡ [] = drop_all (length news - k) (drop k news) (omega (arith, length-drop k news)) in
    let both : map f (take (k + n) ls) ≡ front ++ more = rw take-add (map-append f (take k ls) (take n (drop k ls))) in
    rw (before, none, append-nil, putted, is, whole, more_len, drop-drop, both) (sym (append_assoc front more (drop (k + n) olds)))

-- one more block is written
pub block_written : (f : Letter → ℕ) (bytes olds news put : List ℕ) {blocks : List (List ℕ)} (i : ℕ) → blocks ≡ first_chunks 80 (length bytes / 80) bytes → i < length bytes / 80
    → news ≡ written f bytes (16 * i) olds → put ≡ over (map f (letters_at (get_or blocks i []))) (mid_of (16 * i) (length news - 16 * i) news)
    → put_mid (16 * i) (length news - 16 * i) news put ≡ written f bytes (16 * (i + 1)) olds
block_written f bytes olds news put {blocks} i are lt so_far putted =
    let here : letters_at (get_or blocks i []) ≡ take 16 (drop (16 * i) (letters_at bytes)) =
    rw (are, chunk_at 80 (length bytes / 80) bytes i lt, letters_at-take 16 (drop (i * 80) bytes), letters_at-drop (16 * i) (i * 80) bytes (omega arith)) refl in
    let next : 16 * (i + 1) ≡ 16 * i + 16 = omega arith in
    rw next (written_part f bytes (get_or blocks i []) olds news put (16 * i) 16 here (omega (arith, length_by_fives bytes)) so_far putted)

-- and the rest
pub rest_written : (f : Letter → ℕ) (bytes rest olds news put : List ℕ) (i n : ℕ) → n ≡ length bytes / 80 → rest ≡ drop (length bytes / 80 * 80) bytes → i ≡ n
    → news ≡ written f bytes (16 * i) olds → put ≡ over (map f (letters_at rest)) (mid_of (16 * n) (length news - 16 * n) news)
    → put_mid (16 * n) (length news - 16 * n) news put ≡ over (map f (letters_at bytes)) olds
rest_written f bytes rest olds news put i n count is end so_far putted =
    let ls = letters_at bytes in
    let last : letters_at rest ≡ drop (16 * n) ls = rw is (letters_at-drop (16 * n) (length bytes / 80 * 80) bytes (omega (arith, count))) in
    let len : length (letters_at rest) ≡ length ls - 16 * n = rw last (length-drop (16 * n) ls) in
    let all : 16 * n + length (letters_at rest) ≡ length ls = omega (arith, len, count, length_by_fives bytes) in
    let here : letters_at rest ≡ take (length (letters_at rest)) (drop (16 * n) ls) = rw (← last) (sym (take_all (length (letters_at rest)) (letters_at rest) (omega arith))) in
    let whole = written_part f bytes rest olds news put (16 * n) (length (letters_at rest)) here (omega (arith, all)) (so_far ∙ ap (λ j. written f bytes (16 * j) olds) end) putted in
    whole ∙ rw (all, take_all (length ls) ls (omega arith), length-map) refl
