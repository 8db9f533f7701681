-- A word that is one character.
use Rattle.std.proofs.Common.{◌≡◌, ℕ, List, ◌∷◌, ◌++◌, length, Some, None, Option, IsUtf8, IsSomeAnd, ap, ◌∙◌, ⊎_elim}
use lib.Utf8.{encode}
use Rattle.std.specs.Str.{chars, is_utf8}
use Rattle.std.proofs.lemmas.Bool.{cond-true, cond-false, cases_Bool}
use Rattle.std.proofs.lemmas.List.{nil_from_length}
use Rattle.std.proofs.lemmas.Str.{IsUtf8-past_char, IsUtf8-from_is_utf8, is_utf8-from_IsUtf8, chars-nil, chars_past_char}
use Rattle.script.specs.Numbers.{only, character_of}

-- bytes that are no text are no character
pub character_of-bytes : (w : List ℕ) → (IsUtf8 w → ⊥) → character_of w ≡ None
character_of-bytes w n = ⊎_elim (λ e. absurd (n (IsUtf8-from_is_utf8 w e))) (λ e. cond-false (is_utf8 w) (only (chars w)) None e) (cases_Bool (is_utf8 w))

-- a text is the one character that it has
character_of-text : (w : List ℕ) → IsUtf8 w → character_of w ≡ only (chars w)
character_of-text w u = cond-true (is_utf8 w) (only (chars w)) None (is_utf8-from_IsUtf8 w u)

-- a character with nothing behind it
pub character_of-one : (w rest : List ℕ) (c : ℕ) → IsUtf8 w → w ≡ encode c ++ rest → length rest ≡ 0 → character_of w ≡ Some c
character_of-one w rest c u e l = character_of-text w u ∙ ap only (chars_past_char w rest c u e ∙ ap (◌∷◌ c) (ap chars (nil_from_length rest l) ∙ chars-nil))

-- a character with another behind it
pub character_of-two : (w rest more : List ℕ) (o p : Option ℕ) → IsUtf8 w → IsSomeAnd o (λ c. w ≡ encode c ++ rest) → IsSomeAnd p (λ d. rest ≡ encode d ++ more) →
    character_of w ≡ None
character_of-two w rest more None p u e f = absurd e
character_of-two w rest more (Some c) None u e f = absurd f
character_of-two w rest more (Some c) (Some d) u e f =
    character_of-text w u ∙ ap only (chars_past_char w rest c u e ∙ ap (◌∷◌ c) (chars_past_char rest more d (IsUtf8-past_char w rest c u e) f))
