-- A number in hexadecimal, digit by digit.
use Rattle.std.proofs.Common.{◌≡◌, ℕ, zero, suc, ◌+◌, ◌/◌, ◌%◌, ◌<◌, ◌≤◌, eqb, ltb, [], ◌∷◌, ◌++◌, map, refl, sym, ap, ◌∙◌, arith}
use Rattle.std.proofs.Math.Utf8.{encode}
use Rattle.std.specs.Char.{digit_char}
use Rattle.std.specs.Int.Digits.{digits_of}
use Rattle.std.proofs.lemmas.Bool.{cond-false, cond_both, ne_eqb}
use Rattle.std.proofs.lemmas.Int.Digits.{digits_of_step}
use Rattle.std.proofs.lemmas.List.{map-append}
use Rattle.std.proofs.lemmas.Str.{encode_ascii}
use Rattle.script.specs.Shown.{hex_of}

hex_positive : (n : ℕ) → 0 < n → hex_of n ≡ map digit_char (digits_of 16 n)
hex_positive n h = cond-false (eqb n 0) _ _ (ne_eqb n 0 (λ e. omega arith))

-- the last digit stands behind the number without it
pub hex_more : (n : ℕ) → 16 ≤ n → hex_of n ≡ hex_of (n / 16) ++ digit_char (n % 16) ∷ []
hex_more n h =
    hex_positive n (omega arith) ∙ ap (map digit_char) (digits_of_step 16 n (omega arith) (omega arith)) ∙ map-append digit_char (digits_of 16 (n / 16)) (n % 16 ∷ [])
    ∙ ap (λ l. l ++ digit_char (n % 16) ∷ []) (sym (hex_positive (n / 16) (omega arith)))

-- below 16 it is one digit
pub hex_one : (n : ℕ) → n < 16 → hex_of n ≡ digit_char (n % 16) ∷ []
hex_one zero h = refl
hex_one (suc m) h =
    let q : suc m / 16 ≡ 0 = omega arith in
    hex_positive (suc m) (omega arith) ∙ ap (map digit_char) (digits_of_step 16 (suc m) (omega arith) (omega arith) ∙ ap (λ k. digits_of 16 k ++ suc m % 16 ∷ []) q)

-- a digit is one byte
pub encode-digit : (c d : ℕ) → d < 16 → c ≡ digit_char d → encode c ≡ digit_char d ∷ []
encode-digit c d h e =
    let b : digit_char d < 128 = cond_both (ltb d 10) (48 + d) (87 + d) (λ k. k < 128) (λ _. omega arith) (λ _. omega arith) in
    ap encode e ∙ encode_ascii (digit_char d) b
