-- Numbers and letters as a script writes them.
use Rattle.std.specs.Prelude.{ℕ, ◌-◌, ◌^◌, min, cond, not, ◌&&◌, List, [], ◌∷◌, length, Some, None, Option, ◌==◌}
use Rattle.std.specs.Char.{is_ascii_digit}
use Rattle.std.specs.List.{list_all}
use Rattle.std.specs.Str.{chars, is_utf8}
use Rattle.std.specs.Str.Parse.{digits_value}

-- a decimal number of one digit or more, no higher than 32 bits hold
abbrev pub decimal_of : List ℕ → Option ℕ
decimal_of w = cond (not (length w == 0) && list_all is_ascii_digit w) (Some (min (digits_value 10 w) (2 ^ 32 - 1))) None

-- the one element of a list, if it has one
abbrev pub only : List ℕ → Option ℕ
only (c ∷ []) = Some c
only cs = None

-- the number of the one character whose UTF-8 the word is
abbrev pub character_of : List ℕ → Option ℕ
character_of w = cond (is_utf8 w) (only (chars w)) None
