-- The bytes of sixteen letters, found by their places.
use Rattle.std.proofs.Common.{◌≡◌, ℕ, suc, ◌+◌, ◌*◌, ◌/◌, ◌%◌, ◌<◌, List, [], ◌∷◌, ◌++◌, length, get_or, take, drop, take_all, refl, ap, ◌∙◌, subst, arith}
use Rattle.std.specs.List.{flat_map, range_with_len}
use Rattle.std.specs.Int.{w32, to_le_bytes}
use Rattle.std.specs.Simd.{first_chunks}
use Rattle.std.specs.Simd.Lanes.{chunk, pick_l, digits_l, number_l}
use Rattle.std.proofs.lemmas.Simd.{pick_l_whole}
use Rattle.text.specs.Texts.{paired}
use Rattle.link.specs.Letters.{spelled_letters}
use Rattle.link.proofs.Chunks.{chunk_at}
use Rattle.link.proofs.Pairs.{spelled_more_of, spelled_rest}

-- the low four bytes of a number
low_bytes : (x r k : ℕ) → x < 4294967296 → digits_l 256 (suc (suc (suc (suc k)))) (x + 4294967296 * r) ≡ to_le_bytes w32 x ++ digits_l 256 k r
low_bytes x r k lt =
    let m = x + 4294967296 * r in
    let b0 : m % 256 ≡ x % 256 = omega arith in
    let b1 : m / 256 % 256 ≡ x / 256 % 256 = omega arith in
    let b2 : m / 256 / 256 % 256 ≡ x / 65536 % 256 = omega arith in
    let b3 : m / 256 / 256 / 256 % 256 ≡ x / 16777216 % 256 = omega arith in
    let rest : m / 256 / 256 / 256 / 256 ≡ r = omega (arith, lt) in
    rw (rest, b0, b1, b2, b3) refl

-- the bytes of numbers of four bytes each, the low one of each first
bytes_by_fours : (xs : List ℕ) → ((i : ℕ) → get_or xs i 0 < 4294967296) → digits_l 256 (length xs * 4) (number_l 4294967296 xs) ≡ flat_map (to_le_bytes w32) xs
bytes_by_fours [] fits = refl
bytes_by_fours (x ∷ xs) fits =
    let n : length (x ∷ xs) * 4 ≡ suc (suc (suc (suc (length xs * 4)))) = omega arith in
    rw (n, low_bytes x (number_l 4294967296 xs) (length xs * 4) (fits 0), bytes_by_fours xs (λ i. fits (suc i))) refl

-- where the bytes of letter k are found, in the bytes of sixteen numbers and behind them the sites
abbrev pub places_of : ℕ → List ℕ
places_of k = (4 * k + 3) ∷ (4 * k + 2) ∷ (4 * k + 1) ∷ (4 * k) ∷ (64 + k) ∷ []

abbrev pub places : List ℕ
places = flat_map places_of (range_with_len 0 16)

abbrev pub four_times : List ℕ
four_times = range_with_len 0 16 ++ range_with_len 0 16 ++ range_with_len 0 16 ++ range_with_len 0 16

abbrev pub at_places : List ℕ → List ℕ → List ℕ
at_places bytes sites = pick_l 0 (bytes ++ pick_l 0 (sites ++ sites) four_times) places

spelled_at_places : (letters sites : List ℕ) → length letters ≡ 16 → length sites ≡ 16 → at_places (flat_map (to_le_bytes w32) letters) sites ≡ spelled_letters (paired letters sites)
unfolding paired
spelled_at_places letters sites e f =
    let P = λ (xs ss : List ℕ). at_places (flat_map (to_le_bytes w32) xs) ss ≡ spelled_letters (paired xs ss) in
    subst (λ xs. P xs sites) (pick_l_whole 0 letters 16 e) (subst (λ ss. P (pick_l 0 letters (range_with_len 0 16)) ss) (pick_l_whole 0 sites 16 f) refl)

-- the bytes that the vectors of numbers and sites give
abbrev pub block_bytes : List ℕ → List ℕ → List ℕ
block_bytes letters sites = at_places (digits_l 256 64 (number_l 4294967296 (chunk 0 16 letters))) (chunk 0 16 sites)

pub block_spelled : (letters sites : List ℕ) → length letters ≡ 16 → length sites ≡ 16 → ((i : ℕ) → get_or letters i 0 < 4294967296)
    → block_bytes letters sites ≡ spelled_letters (paired letters sites)
block_spelled letters sites e f fits =
    let count : length letters * 4 ≡ 64 = omega arith in
    let bytes : digits_l 256 64 (number_l 4294967296 letters) ≡ flat_map (to_le_bytes w32) letters =
    subst (λ n. digits_l 256 n (number_l 4294967296 letters) ≡ flat_map (to_le_bytes w32) letters) count (bytes_by_fours letters fits) in
    rw (take_all 16 letters (omega arith), take_all 16 sites (omega arith)) (ap (λ bs. at_places bs sites) bytes ∙ spelled_at_places letters sites e f)

-- ---- the loop over blocks

-- one more block is spelled
pub block_more : (xs ss was bytes : List ℕ) {blocks site_blocks : List (List ℕ)} (i : ℕ) → length xs ≡ length ss
    → blocks ≡ first_chunks 16 (length xs / 16) xs → site_blocks ≡ first_chunks 16 (length ss / 16) ss → i < length xs / 16
    → bytes ≡ was ++ spelled_letters (take (i * 16) (paired xs ss))
    → bytes ++ spelled_letters (paired (get_or blocks i []) (get_or site_blocks i [])) ≡ was ++ spelled_letters (take ((i + 1) * 16) (paired xs ss))
block_more xs ss was bytes i same is are lt so_far =
    let next : (i + 1) * 16 ≡ i * 16 + 16 = omega arith in
    rw (so_far, is, are, chunk_at 16 (length xs / 16) xs i lt, chunk_at 16 (length ss / 16) ss i (omega arith), next) (spelled_more_of xs ss was (i * 16) 16 same)

-- and the rest
pub block_rest : (xs ss was bytes : List ℕ) {rest site_rest : List ℕ} (i : ℕ) → length xs ≡ length ss → i ≡ length xs / 16
    → rest ≡ drop (length xs / 16 * 16) xs → site_rest ≡ drop (length ss / 16 * 16) ss → bytes ≡ was ++ spelled_letters (take (i * 16) (paired xs ss))
    → bytes ++ spelled_letters (paired rest site_rest) ≡ was ++ spelled_letters (paired xs ss)
block_rest xs ss was bytes i same end is are so_far = rw (so_far, is, are, ← same, ← end) (spelled_rest xs ss was (i * 16) same)
