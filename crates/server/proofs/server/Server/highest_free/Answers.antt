use Rattle.std.proofs.Common.{refl, rules}
use Rattle.server.specs.Servers.{seats}
use Rattle.server.proofs.FreeSites.{found}
use Rattle.server.proofs.server.Server.highest_free.Goals as goal

pub returns : goal.returns
returns c = let ran = c.find.ensures.ran in found (seats c.args.self.now) _ _ (λ x b q k. search rules) ran.0 16 _ _ _ _ _ c.rev.ensures.source refl ran.2 ran.3 ran.4
