-- How letters are shown.
use Rattle.std.specs.Prelude.{ℕ, Bool, cond, not, ◌&&◌, ◌||◌, List, ◌++◌, map, codes, ◌==◌, nat_le, nat_lt}
use Rattle.std.proofs.Math.Utf8.{encode}
use Rattle.std.specs.Char.{digit_char}
use Rattle.std.specs.Int.Digits.{digits_of}
use Rattle.std.specs.List.{flat_map}

-- from the space to the tilde but for the backslash; from 161 on but for the surrogates
abbrev pub is_printable : ℕ → Bool
is_printable n = (nat_le 32 n && nat_le n 126 && not (n == 92)) || (nat_le 161 n && nat_le n 1114111 && (nat_lt n 55296 || nat_lt 57343 n))

-- in hexadecimal, with no leading zero
abbrev pub hex_of : ℕ → List ℕ
hex_of n = cond (n == 0) (codes "0") (map digit_char (digits_of 16 n))

-- a letter by its number
abbrev pub escape_of : ℕ → List ℕ
escape_of n = codes "\\u{" ++ (hex_of n ++ codes "}")

-- a letter as itself where it can be printed, else by its number
abbrev pub letter_shown : ℕ → List ℕ
letter_shown n = cond (is_printable n) (encode n) (escape_of n)

-- the letters one after another
abbrev pub text_shown : List ℕ → List ℕ
text_shown ns = flat_map letter_shown ns
