-- Letters as they stand in a message: for each its number in four bytes, the high one first, and its site in one.
use Rattle.std.specs.Prelude.{ℕ, Bool, ◌&&◌, List, [], ◌∷◌, ◌++◌, length, drop, Some, None, Option, if◌then◌else◌, nat_le, ◌==◌, ◌%◌}
use Rattle.std.specs.List.{flat_map, list_all}
use Rattle.std.specs.Int.{w32, to_be_bytes, from_be_bytes}
use Rattle.text.specs.Texts.{Letter, paired}

-- a number that a letter can have
abbrev pub is_number : ℕ → Bool
is_number x = nat_le 1 x && nat_le x 1114111

-- a site that there is
abbrev pub is_site : ℕ → Bool
is_site s = nat_le s 15

abbrev pub is_fit_letter : Letter → Bool
is_fit_letter l = is_number l.number && is_site l.site

abbrev pub are_fit : List Letter → Bool
are_fit ls = list_all is_fit_letter ls

abbrev pub spelled_letter : Letter → List ℕ
spelled_letter l = to_be_bytes w32 l.number ++ l.site ∷ []

abbrev pub spelled_letters : List Letter → List ℕ
spelled_letters ls = flat_map spelled_letter ls

-- the letters that bytes are, five bytes each; a rest of fewer is left out
unfoldable pub letters_at : List ℕ → List Letter
letters_at (a ∷ b ∷ c ∷ d ∷ i ∷ rest) = record { number = from_be_bytes w32 (a ∷ b ∷ c ∷ d ∷ []); site = i } ∷ letters_at rest
letters_at _ = []

-- whole letters, such as there are
unfoldable pub are_letters : List ℕ → Bool
are_letters bytes = (length bytes % 5 == 0) && are_fit (letters_at bytes)

-- the letters of a text, if the bytes are such
abbrev pub letters_in : List ℕ → Option (List Letter)
letters_in bytes = if nat_le (length bytes) 327680 && are_letters bytes then Some (letters_at bytes) else None

-- letters and sites that are those of a text
abbrev pub can_be_spelled : List ℕ → List ℕ → Bool
can_be_spelled xs is = (length xs == length is) && (nat_le (length xs) 65536 && are_fit (paired xs is))

-- a list over the front of another
abbrev pub over : {A : Type 0} → List A → List A → List A
over xs ys = xs ++ drop (length xs) ys
