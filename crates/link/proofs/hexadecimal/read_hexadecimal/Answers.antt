use Rattle.std.proofs.Common.{Ok}
use Rattle.std.proofs.lemmas.Result.{err_from_is_err_and}
use Rattle.link.specs.Hexadecimal.{Gives}
use Rattle.link.proofs.Hexadecimals.{decoded_is_hexadecimal, error_gives, lower_gives, upper_gives}
use Rattle.link.proofs.hexadecimal.read_hexadecimal.Goals as goal

pub returns-in_err-decode : goal.returns-in_err-decode
returns-in_err-decode c =
    let p = err_from_is_err_and c.from_residual.result c.from_residual.ensures.1 in
    let text = c.args.text.now in
    let gives : Gives text c.from_residual.result = rw (p.1, p.2) (error_gives text c.in_err-decode.field-0.0 c.in_err-decode.ensures.err) in
    record { gives = gives; lower = λ bytes is e. lower_gives text bytes c.from_residual.result gives is e; upper = λ bytes is e. upper_gives text bytes c.from_residual.result gives is e }

pub returns : goal.returns
returns c =
    let text = c.args.text.now in
    let gives : Gives text (Ok c.in_ok-decode.field-0) = (decoded_is_hexadecimal text _ c.in_ok-decode.ensures.ok, c.in_ok-decode.ensures.ok) in
    record { gives = gives; lower = λ bytes is e. lower_gives text bytes (Ok c.in_ok-decode.field-0) gives is e; upper = λ bytes is e. upper_gives text bytes (Ok c.in_ok-decode.field-0) gives is e }
