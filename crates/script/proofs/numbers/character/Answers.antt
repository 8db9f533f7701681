use Rattle.std.proofs.Common.{◌≡◌, ◌++◌, IsSomeAnd, IsUtf8, arith}
use lib.Utf8.{encode}
use Rattle.std.specs.Str.Iter.{chars_rest}
use Rattle.script.proofs.Characters.{character_of-bytes, character_of-one, character_of-two}
use Rattle.script.proofs.numbers.character.Goals as goal

pub returns-in_err-ok : goal.returns-in_err-ok
returns-in_err-ok c = grind (arith, character_of-bytes)

pub returns : goal.returns
returns c =
    let text : IsUtf8 c.args.word.now = grind arith in
    let first : c.args.word.now ≡ encode c.from.result ++ chars_rest c.next.new.self = grind arith in
    grind (arith, character_of-one _ _ _ text first)

pub returns-in_default : goal.returns-in_default
returns-in_default c =
    let text : IsUtf8 c.args.word.now = grind arith in
    let first : IsSomeAnd c.next.result (λ d. c.args.word.now ≡ encode d ++ chars_rest c.next.new.self) = grind arith in
    let second : IsSomeAnd c.next-2.result (λ d. chars_rest c.next.new.self ≡ encode d ++ chars_rest c.next-2.new.self) = grind arith in
    grind (arith, character_of-two _ _ _ _ _ text first second)
