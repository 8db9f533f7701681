use Rattle.std.proofs.Common.{◌≡◌, ℕ, ◌<◌, true, ap, arith}
use Rattle.std.specs.Char.{digit_value, is_ascii_digit}
use Rattle.std.proofs.lemmas.Bool.Decides.{nat_tests}
use Rattle.std.proofs.lemmas.Int.Digits.{digits_value_more}
use Rattle.std.proofs.lemmas.List.Folds.{list_all_more}
use Rattle.script.proofs.numbers.decimal.Goals as goal

-- what has a value below ten is a digit
is_ascii_digit-value : (c : ℕ) → digit_value c < 10 → is_ascii_digit c ≡ true
is_ascii_digit-value c h = grind (arith, nat_tests)

pub loop-byte-preserved : goal.loop-byte-preserved
loop-byte-preserved c =
    let w = c.args.word.now in
    let i = c.loop-byte.byte-index in
    let digit = ap digit_value c.from.ensures in
    (omega (arith, c.in_ok-digit.ensures.value, digits_value_more 10 w i c.loop-byte-test.true), grind (arith, is_ascii_digit-value, list_all_more is_ascii_digit w i 0 c.loop-byte-test.true))
