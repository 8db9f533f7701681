use Rattle.std.proofs.Common.{◌≡◌, ℕ, ◌/◌, ◌%◌, ◌<◌, List, [], ◌∷◌, ◌++◌, string_bytes, sym, ap, ◌∙◌, arith}
use Rattle.std.specs.Char.{digit_char}
use Rattle.std.proofs.lemmas.List.{append_assoc}
use Rattle.std.proofs.lemmas.Grind.{common_steps}
use Rattle.script.specs.Shown.{hex_of}
use Rattle.script.proofs.Hex.{hex_one, hex_more, encode-digit}
use Rattle.script.proofs.show.+push_hex.Goals as goal
use Rattle.script.proofs.show.+push_hex.Goals.{then-number-ge16+in_ok-push_hex, else-number-ge16}

pub returns : goal.returns
returns t c =
    let n : ℕ = c.args.number in
    let xs : List ℕ = string_bytes c.args.out.now in
    let was : List ℕ = string_bytes c.if-number-ge16.out in
    let d : n % 16 < 16 = omega arith in
    let digit : c.unwrap.result ≡ digit_char (n % 16) = grind (arith, common_steps) in
    let byte = encode-digit c.unwrap.result (n % 16) d digit in
    let all : was ++ digit_char (n % 16) ∷ [] ≡ xs ++ hex_of n =
    elim c.if-number-ge16.branch [
      | then-number-ge16+in_ok-push_hex w ↦
          ap (λ o. string_bytes o ++ digit_char (n % 16) ∷ []) w.out-is ∙ ap (λ l. l ++ digit_char (n % 16) ∷ []) w.in_ok-push_hex.ensures
          ∙ append_assoc xs (hex_of (n / 16)) (digit_char (n % 16) ∷ []) ∙ ap (◌++◌ xs) (sym (hex_more n w.if-number-ge16.true))
      | else-number-ge16 w ↦ ap (λ o. string_bytes o ++ digit_char (n % 16) ∷ []) w.out-is ∙ ap (◌++◌ xs) (sym (hex_one n w.if-number-ge16.false))
    ] in
    let bytes = rw (byte, all) at c.push.ensures.bytes in
    grind (arith, common_steps)
