-- Loops over chunks: those of five bytes are loops over letters.
use Rattle.std.proofs.Common.{◌≡◌, ℕ, zero, suc, ◌+◌, ◌*◌, ◌/◌, ◌%◌, ◌<◌, ◌≤◌, ◌&&◌, ◌==◌, Bool, List, [], ◌∷◌, ◌++◌, map, length, get_or, take, drop, set, append_assoc, refl, sym, ap, ◌∙◌, arith}
use Rattle.std.specs.Int.{w32, from_be_bytes}
use Rattle.std.specs.Simd.{first_chunks}
use Rattle.std.proofs.Math.Bool.{and_assoc}
use Rattle.std.proofs.lemmas.List.{drop-drop, take_all, length-map, length-take-le, get_or-map, map_more, drop_more, set_at}
use Rattle.std.proofs.lemmas.List.Folds.{list_all_more}
use Rattle.text.specs.Texts.{Letter}
use Rattle.link.specs.Letters.{is_fit_letter, are_fit, letters_at, are_letters, over}

-- chunk i of n elements each
pub chunk_at : {X : Type 0} (n k : ℕ) (xs : List X) (i : ℕ) → i < k → get_or (first_chunks n k xs) i [] ≡ take n (drop (i * n) xs)
chunk_at n zero xs i lt = absurd (omega arith)
chunk_at n (suc k) xs zero lt =
    let none : 0 * n ≡ 0 = omega arith in
    rw none refl
chunk_at n (suc k) xs (suc i) lt =
    let before : suc i * n ≡ n + i * n = omega arith in
    rw (before, ← drop-drop (i * n) n xs) (chunk_at n k (drop n xs) i (omega arith))

-- the letter that five bytes are
abbrev pub letter_from : List ℕ → Letter
letter_from x = record { number = from_be_bytes w32 (get_or x 0 0 ∷ get_or x 1 0 ∷ get_or x 2 0 ∷ get_or x 3 0 ∷ []); site = get_or x 4 0 }

abbrev pub chunks_of : List ℕ → List (List ℕ)
chunks_of bytes = first_chunks 5 (length bytes / 5) bytes

letters_at-first_chunks : (k : ℕ) (bytes : List ℕ) → k * 5 ≤ length bytes → length bytes < k * 5 + 5 → letters_at bytes ≡ map letter_from (first_chunks 5 k bytes)
unfolding letters_at
letters_at-first_chunks zero [] ge lt = refl
letters_at-first_chunks zero (a ∷ []) ge lt = refl
letters_at-first_chunks zero (a ∷ b ∷ []) ge lt = refl
letters_at-first_chunks zero (a ∷ b ∷ c ∷ []) ge lt = refl
letters_at-first_chunks zero (a ∷ b ∷ c ∷ d ∷ []) ge lt = refl
letters_at-first_chunks zero (a ∷ b ∷ c ∷ d ∷ i ∷ rest) ge lt = absurd (omega arith)
letters_at-first_chunks (suc k) [] ge lt = absurd (omega arith)
letters_at-first_chunks (suc k) (a ∷ []) ge lt = absurd (omega arith)
letters_at-first_chunks (suc k) (a ∷ b ∷ []) ge lt = absurd (omega arith)
letters_at-first_chunks (suc k) (a ∷ b ∷ c ∷ []) ge lt = absurd (omega arith)
letters_at-first_chunks (suc k) (a ∷ b ∷ c ∷ d ∷ []) ge lt = absurd (omega arith)
letters_at-first_chunks (suc k) (a ∷ b ∷ c ∷ d ∷ i ∷ rest) ge lt =
    ap (λ (ls : List Letter). record { number = from_be_bytes w32 (a ∷ b ∷ c ∷ d ∷ []); site = i } ∷ ls) (letters_at-first_chunks k rest (omega arith) (omega arith))

pub letters_at-chunks : (bytes : List ℕ) → letters_at bytes ≡ map letter_from (chunks_of bytes)
letters_at-chunks bytes = letters_at-first_chunks (length bytes / 5) bytes (omega arith) (omega arith)

-- whole letters, of which those below i are tested
abbrev pub passes : List ℕ → ℕ → Bool
passes bytes i = (length bytes % 5 == 0) && are_fit (take i (letters_at bytes))

-- one more letter is tested
pub tested_more : (bytes : List ℕ) (chunks : List (List ℕ)) (i : ℕ) (good : Bool) → chunks ≡ chunks_of bytes → i < length chunks
    → good ≡ passes bytes i → (good && is_fit_letter (letter_from (get_or chunks i []))) ≡ passes bytes (i + 1)
tested_more bytes chunks i good is lt so_far =
    let ls = letters_at bytes in
    let e : ls ≡ map letter_from chunks = letters_at-chunks bytes ∙ ap (λ (x : List (List ℕ)). map letter_from x) (sym is) in
    let d = letter_from [] in
    let at : get_or ls i d ≡ letter_from (get_or chunks i []) = rw e (get_or-map letter_from chunks i [] d lt) in
    let len : i < length ls = rw (e, length-map) lt in
    let more : are_fit (take (i + 1) ls) ≡ (are_fit (take i ls) && is_fit_letter (get_or ls i d)) = list_all_more is_fit_letter ls i d len in
    rw (so_far, more, at) (and_assoc (length bytes % 5 == 0) (are_fit (take i ls)) (is_fit_letter (letter_from (get_or chunks i []))))

-- all are tested
pub tested_all : (bytes : List ℕ) (chunks : List (List ℕ)) (i : ℕ) (good : Bool) → chunks ≡ chunks_of bytes → length chunks ≤ i
    → good ≡ passes bytes i → good ≡ are_letters bytes
unfolding are_letters
tested_all bytes chunks i good is le so_far =
    let e : letters_at bytes ≡ map letter_from chunks = letters_at-chunks bytes ∙ ap (λ (x : List (List ℕ)). map letter_from x) (sym is) in
    let all : take i (letters_at bytes) ≡ letters_at bytes = take_all i _ (rw (e, length-map) le) in
    so_far ∙ ap (λ (ls : List Letter). (length bytes % 5 == 0) && are_fit ls) all

-- the front of olds is written over by what f gives of the letters below i
abbrev pub written : (Letter → ℕ) → List ℕ → ℕ → List ℕ → List ℕ
written f bytes i olds = map f (take i (letters_at bytes)) ++ drop i olds

-- one more is written
pub written_more : (f : Letter → ℕ) (bytes : List ℕ) (chunks : List (List ℕ)) (i : ℕ) (olds news : List ℕ) → chunks ≡ chunks_of bytes → i < length chunks → length chunks ≤ length olds
    → news ≡ written f bytes i olds → set news i (f (letter_from (get_or chunks i []))) ≡ written f bytes (i + 1) olds
written_more f bytes chunks i olds news is lt room so_far =
    let ls = letters_at bytes in
    let e : ls ≡ map letter_from chunks = letters_at-chunks bytes ∙ ap (λ (x : List (List ℕ)). map letter_from x) (sym is) in
    let d = letter_from [] in
    let at : get_or ls i d ≡ letter_from (get_or chunks i []) = rw e (get_or-map letter_from chunks i [] d lt) in
    let len : i < length ls = rw (e, length-map) lt in
    let front : length (map f (take i ls)) ≡ i = rw (length-map, length-take-le i ls (omega arith)) refl in
    let more : map f (take (i + 1) ls) ≡ map f (take i ls) ++ f (get_or ls i d) ∷ [] = map_more f ls i d len in
    let old : drop i olds ≡ get_or olds i 0 ∷ drop (i + 1) olds = drop_more olds i 0 (omega arith) in
    let put = set_at (map f (take i ls)) (get_or olds i 0) (drop (i + 1) olds) (f (letter_from (get_or chunks i []))) i front in
    rw (so_far, old, put, more, at) (sym (append_assoc (map f (take i ls)) (f (letter_from (get_or chunks i [])) ∷ []) (drop (i + 1) olds)))

-- all are written
pub written_all : (f : Letter → ℕ) (bytes : List ℕ) (chunks : List (List ℕ)) (i : ℕ) (olds news : List ℕ) → chunks ≡ chunks_of bytes → length chunks ≡ i
    → news ≡ written f bytes i olds → news ≡ over (map f (letters_at bytes)) olds
written_all f bytes chunks i olds news is eq so_far =
    let e : letters_at bytes ≡ map letter_from chunks = letters_at-chunks bytes ∙ ap (λ (x : List (List ℕ)). map letter_from x) (sym is) in
    let len : length (letters_at bytes) ≡ i = rw (e, length-map) eq in
    let all : take i (letters_at bytes) ≡ letters_at bytes = take_all i _ (omega arith) in
    rw (so_far, all, length-map, len) refl
