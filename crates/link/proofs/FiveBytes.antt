-- Letters as five bytes each: what is spelled is read again, and what is read is spelled so.
use Rattle.std.proofs.Common.{◌≡◌, ℕ, suc, ◌+◌, ◌*◌, ◌%◌, ◌<◌, ◌≤◌, ◌&&◌, Bool, true, false, cond, leb, List, [], ◌∷◌, ◌++◌, length, get_or, take, drop, Some, None, refl, sym, ap, ◌∙◌, arith, inl, inr}
use Rattle.std.specs.Int.{w32, to_be_bytes, from_be_bytes}
use Rattle.std.proofs.lemmas.Bool.{cases_lt, and_parts, and_from, eqb-true, eq-eqb, leb-true, le-leb}
use Rattle.std.proofs.lemmas.List.{get_or-drop, get_or-take, get_or_past, length-take}
use Rattle.std.proofs.lemmas.Nat.{be_bytes_4, from_be_bytes-to_be_bytes_4}
use Rattle.text.specs.Texts.{Letter}
use Rattle.link.specs.Letters.{is_number, is_fit_letter, are_fit, spelled_letters, letters_at, are_letters, letters_in}

abbrev pub IsBytes : List ℕ → Type 0
IsBytes bytes = (i : ℕ) → get_or bytes i 0 < 256

pub IsBytes-drop : (n : ℕ) (bytes : List ℕ) → IsBytes bytes → IsBytes (drop n bytes)
IsBytes-drop n bytes h i = rw get_or-drop (h (n + i))

pub IsBytes-take : (n : ℕ) (bytes : List ℕ) → IsBytes bytes → IsBytes (take n bytes)
IsBytes-take n bytes h i =
    elim (cases_lt i n) [
      | inl lt ↦ rw (get_or-take n bytes i 0 lt) (h i)
      | inr le ↦ rw (get_or_past (take n bytes) i 0 (omega (arith, length-take n bytes))) (omega arith)
    ]

pub IsBytes-tail : (b : ℕ) (bytes : List ℕ) → IsBytes (b ∷ bytes) → IsBytes bytes
IsBytes-tail b bytes h i = h (suc i)

-- bytes are whole letters, and the letters are such as there are
pub are_letters-parts : (bytes : List ℕ) → are_letters bytes ≡ true → (length bytes % 5 ≡ 0) × (are_fit (letters_at bytes) ≡ true)
unfolding are_letters
are_letters-parts bytes e = let p = and_parts _ _ e in (eqb-true _ _ p.0, p.1)

pub are_letters-from : (bytes : List ℕ) → length bytes % 5 ≡ 0 → are_fit (letters_at bytes) ≡ true → are_letters bytes ≡ true
unfolding are_letters
are_letters-from bytes whole fit = and_from _ _ (eq-eqb _ _ whole) fit

-- ---- what is spelled

pub length-spelled_letters : (ls : List Letter) → length (spelled_letters ls) ≡ length ls * 5
length-spelled_letters [] = refl
length-spelled_letters (l ∷ ls) = omega (arith, length-spelled_letters ls)

pub letters_at-spelled : (ls : List Letter) → are_fit ls ≡ true → letters_at (spelled_letters ls) ≡ ls
unfolding letters_at
letters_at-spelled [] fit = refl
letters_at-spelled (l ∷ ls) fit =
    let parts = and_parts (is_fit_letter l) (are_fit ls) fit in
    let number = and_parts (leb 1 l.number) (leb l.number 1114111) (and_parts (is_number l.number) (leb l.site 15) parts.0).0 in
    let back : from_be_bytes w32 (to_be_bytes w32 l.number) ≡ l.number = from_be_bytes-to_be_bytes_4 l.number (omega (arith, leb-true _ _ number.1)) in
    rw (back, letters_at-spelled ls parts.1) refl

pub are_letters-spelled : (ls : List Letter) → are_fit ls ≡ true → are_letters (spelled_letters ls) ≡ true
are_letters-spelled ls fit = are_letters-from (spelled_letters ls) (omega (arith, length-spelled_letters ls)) (rw (letters_at-spelled ls fit) fit)

pub letters_in-spelled : (ls : List Letter) → length ls ≤ 65536 → are_fit ls ≡ true → letters_in (spelled_letters ls) ≡ Some ls
letters_in-spelled ls few fit =
    let short : leb (length (spelled_letters ls)) 327680 ≡ true = le-leb _ _ (omega (arith, length-spelled_letters ls)) in
    rw (short, are_letters-spelled ls fit, letters_at-spelled ls fit) refl

-- ---- what is read

pub length_by_fives : (bytes : List ℕ) → length (letters_at bytes) * 5 + length bytes % 5 ≡ length bytes
unfolding letters_at
length_by_fives [] = refl
length_by_fives (a ∷ []) = refl
length_by_fives (a ∷ b ∷ []) = refl
length_by_fives (a ∷ b ∷ c ∷ []) = refl
length_by_fives (a ∷ b ∷ c ∷ d ∷ []) = refl
length_by_fives (a ∷ b ∷ c ∷ d ∷ i ∷ rest) = omega (arith, length_by_fives rest)

pub length-letters_at : (bytes : List ℕ) → are_letters bytes ≡ true → length (letters_at bytes) * 5 ≡ length bytes
length-letters_at bytes e = omega (arith, length_by_fives bytes, (are_letters-parts bytes e).0)

pub fit-letters_at : (bytes : List ℕ) → are_letters bytes ≡ true → are_fit (letters_at bytes) ≡ true
fit-letters_at bytes e = (are_letters-parts bytes e).1

whole_spelled : (bytes : List ℕ) → IsBytes bytes → length bytes % 5 ≡ 0 → spelled_letters (letters_at bytes) ≡ bytes
unfolding letters_at
whole_spelled [] fits e = refl
whole_spelled (a ∷ []) fits e = absurd (omega arith)
whole_spelled (a ∷ b ∷ []) fits e = absurd (omega arith)
whole_spelled (a ∷ b ∷ c ∷ []) fits e = absurd (omega arith)
whole_spelled (a ∷ b ∷ c ∷ d ∷ []) fits e = absurd (omega arith)
whole_spelled (a ∷ b ∷ c ∷ d ∷ i ∷ rest) fits e =
    let front : to_be_bytes w32 (from_be_bytes w32 (a ∷ b ∷ c ∷ d ∷ [])) ≡ a ∷ b ∷ c ∷ d ∷ [] = be_bytes_4 (a ∷ b ∷ c ∷ d ∷ []) _ refl (IsBytes-take 4 (a ∷ b ∷ c ∷ d ∷ i ∷ rest) fits) refl in
    let back : spelled_letters (letters_at rest) ≡ rest = whole_spelled rest (IsBytes-drop 5 (a ∷ b ∷ c ∷ d ∷ i ∷ rest) fits) (omega arith) in
    ap (λ (x : List ℕ). x ++ i ∷ spelled_letters (letters_at rest)) front ∙ ap (λ (x : List ℕ). a ∷ b ∷ c ∷ d ∷ i ∷ x) back

pub spelled-letters_at : (bytes : List ℕ) → IsBytes bytes → are_letters bytes ≡ true → spelled_letters (letters_at bytes) ≡ bytes
spelled-letters_at bytes fits e = whole_spelled bytes fits (are_letters-parts bytes e).0

some_if : {A : Type 0} (b : Bool) (x y : A) → cond b (Some x) None ≡ Some y → (b ≡ true) × (x ≡ y)
some_if true x y e = (refl, cc)
some_if false x y e = absurd cc

pub letters_in-some : (bytes : List ℕ) (ls : List Letter) → IsBytes bytes → letters_in bytes ≡ Some ls → (bytes ≡ spelled_letters ls) × (length ls ≤ 65536) × (are_fit ls ≡ true)
letters_in-some bytes ls fits e =
    let found = some_if (leb (length bytes) 327680 && are_letters bytes) (letters_at bytes) ls e in
    let parts = and_parts (leb (length bytes) 327680) (are_letters bytes) found.0 in
    rw (← found.1) (sym (spelled-letters_at bytes fits parts.1), omega (arith, leb-true _ _ parts.0, length-letters_at bytes parts.1), fit-letters_at bytes parts.1)
