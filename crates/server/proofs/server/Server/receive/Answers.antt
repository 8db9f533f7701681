use Rattle.std.proofs.Common.{◌≡◌, min, None, sym, ◌∙◌, arith}
use Rattle.operation.specs.Edits.{site}
use Rattle.text.specs.Coded.{coded}
use Rattle.text.specs.Texts.{refusal}
use Rattle.server.specs.Sessions.{free, sender}
use Rattle.server.specs.Servers.{state_of, room_of, with_seat, added, taken_bounded}
use Rattle.server.proofs.Takes.{with_seat_twice, added_is_taken, no_reason, become}
use Rattle.server.proofs.server.Server.receive.Goals as goal

pub returns-in-Err-clause-after : goal.returns-in-Err-clause-after
returns-in-Err-clause-after c =
    let m = c.args.submission in
    let v = state_of c.args.self.now in
    let state : state_of c.end.new.self ≡ with_seat (site m.op) free v =
    c.end.ensures.state ∙ (λ t. with_seat (c.site-site.ensures t) free (c.arrive-op.ensures.after.state t)) ∙ with_seat_twice (site m.op) free (sender coded m (v.seats (site m.op))) v in
    record { state = grind (arith, state); room = c.end.ensures.room ∙ c.arrive-op.ensures.after.room }

pub returns-clause-after : goal.returns-clause-after
returns-clause-after c =
    let m = c.args.submission in
    let v = state_of c.args.self.now in
    let none : refusal (min (room_of c.args.self.now) 65536) (become m v) v.text ≡ None = grind (arith, no_reason _ _ _ _ (sym c.lowest.ensures ∙ c.in_default.is)) in
    let state : state_of c.add.new.self ≡ taken_bounded (site m.op) m v =
    c.add.ensures.after.state
    ∙ (λ t. added (c.arrive-op.ensures.after.room t) (c.site-site.ensures t) (c.arrive-op.ensures.one t) (c.arrive-op.ensures.after.state t))
    ∙ added_is_taken (room_of c.args.self.now) m v none in
    record { state = grind (arith, state); room = c.add.ensures.after.room ∙ c.arrive-op.ensures.after.room }
