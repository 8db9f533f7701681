use Rattle.std.proofs.Common.{refl, vec_items, ap, ◌∙◌, arith}
use Rattle.server.specs.Sessions.{joined_at}
use Rattle.server.specs.Servers.{seats, state_of, join_after}
use Rattle.server.proofs.FreeSites.{chosen_below}
use Rattle.server.proofs.Seats.{seat_written}
use Rattle.server.proofs.server.Server.join.Goals as goal

pub index_mut-requires : goal.index_mut-requires
index_mut-requires c = let l = chosen_below (seats c.args.self.now) c.args.wanted c.in-Some.site c.in-Some.ensures in omega arith

pub returns-clause-after : goal.returns-clause-after
returns-clause-after c =
    let l = chosen_below (seats c.args.self.now) c.args.wanted c.in-Some.site c.in-Some.ensures in
    record {
      state =
          seat_written _ _ (vec_items c.args.self.now.sessions) _ _ c.open.new.self _ c.from.ensures (omega arith) (c.open.ensures ∙ ap joined_at c.revision-revision.ensures)
          ∙ ap (λ o. join_after o (state_of c.args.self.now)) c.in-Some.ensures;
      room = refl;
    }
