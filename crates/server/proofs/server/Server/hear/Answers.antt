use Rattle.std.proofs.lemmas.Bool.{cond-true}
use Rattle.std.proofs.Common.{cond, refl, vec_items, sym, ap, ◌∙◌, arith}
use Rattle.server.specs.Sessions.{free, heard}
use Rattle.server.specs.Servers.{state_of, seats_in, with_seat}
use Rattle.server.proofs.Seats.{seat_written, seat_at, seat_connected}
use Rattle.server.proofs.server.Server.hear.Goals as goal

pub returns-clause-after : goal.returns-clause-after
returns-clause-after c =
    let ss = vec_items c.args.self.now.sessions in
    let v = state_of c.args.self.now in
    let yes = sym c.is_connected.ensures ∙ c.if-not-is_connected.false in
    let good = sym c.is_bad.ensures ∙ c.if-is_bad.false in
    let l = seat_connected ss c.args.site yes in
    let seat = c.hear.ensures ∙ ap (heard c.args.revision) (sym (seat_at ss c.from.result c.index_mut.result.now (omega arith) c.index_mut.ensures.value) ∙ ap (seats_in ss) c.from.ensures) in
    let state = seat_written c.args.self.now.text.letters (vec_items c.args.self.now.history) ss c.from.result c.args.site c.hear.new.self _ c.from.ensures (omega arith) seat in
    record {
      state = state ∙ sym (cond-true _ _ v yes ∙ ap (λ b. with_seat c.args.site (cond b free (heard c.args.revision (v.seats c.args.site))) v) good);
      room = refl;
    }
