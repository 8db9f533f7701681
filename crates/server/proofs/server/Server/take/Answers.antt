use Rattle.std.proofs.Common.{◌≡◌, ap, ◌∙◌, refl, arith}
use Rattle.std.proofs.lemmas.Result.{err_from_is_err_and}
use Rattle.server.specs.Sessions.{ServerState}
use Rattle.text.specs.Coded.{coded}
use Rattle.server.specs.Servers.{seats, text_of, state_of, room_of, take_answer, take_after, done, no_memory}
use Rattle.server.proofs.server.Server.take.Goals as goal

pub returns-in_err-reserve-clause-outcome : goal.returns-in_err-reserve-clause-outcome
returns-in_err-reserve-clause-outcome c =
    let p = err_from_is_err_and c.from_residual.result c.from_residual.ensures.1 in
    let v = c.args.self.now in
    no_memory (grind (arith, p.1, p.2)) (record { state = λ t. record { text = (text_of v).letters; history = c.reserve.ensures.items t; seats = seats v }; room = refl })

pub returns-clause-outcome : goal.returns-clause-outcome
returns-clause-outcome c =
    let v = c.args.self.now in
    let m = c.args.submission in
    let n = room_of v in
    let was : ◌≡◌ {A = ServerState coded} (record { text = (text_of v).letters; history = c.reserve.new.self.items; seats = seats v }) (state_of v) =
    λ t. record { text = (text_of v).letters; history = c.reserve.ensures.items t; seats = seats v } in
    done (c.receive.ensures.answer ∙ ap (take_answer n m) was) (record { state = c.receive.ensures.after.state ∙ ap (take_after n m) was; room = c.receive.ensures.after.room })
