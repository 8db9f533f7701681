use Rattle.std.proofs.Common.{◌≡◌, vec_items, sym, ap, ◌∙◌, refl, arith}
use Rattle.operation.specs.Edits.{site}
use Rattle.text.specs.Coded.{coded}
use Rattle.server.specs.Sessions.{sender}
use Rattle.server.specs.Seats.{seat_of, seats_in}
use Rattle.server.proofs.Seats.{seat_connected, seat_at, seat_written}
use Rattle.server.proofs.server.Server.arrive.Goals as goal

pub returns-clause-after : goal.returns-clause-after
returns-clause-after c =
    let ss = vec_items c.args.self.now.sessions in
    let m = c.args.submission in
    let i = c.from-site.ensures ∙ c.site.ensures in
    let l = seat_connected ss _ c.requires in
    let s : seat_of c.index_mut.result.now ≡ seats_in ss (site m.op) =
    sym (seat_at ss c.from-site.result c.index_mut.result.now (omega arith) c.index_mut.ensures.value) ∙ ap (seats_in ss) i in
    record {
      state = seat_written _ _ ss _ _ c.receive.new.self _ i (omega arith) (c.receive.ensures.seat ∙ ap (sender coded m) s);
      room = refl;
    }
