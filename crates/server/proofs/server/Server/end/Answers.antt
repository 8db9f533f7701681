use Rattle.std.proofs.Common.{refl, vec_items, arith}
use Rattle.server.proofs.Seats.{seat_written}
use Rattle.server.proofs.server.Server.end.Goals as goal

pub returns-in-Some : goal.returns-in-Some
returns-in-Some c = record {
  state = seat_written _ _ (vec_items c.args.self.now.sessions) _ _ c.close.new.self _ c.from.ensures (omega (arith, c.in-Some.ensures.variant.0 refl)) c.close.ensures;
  room = refl;
}
