use Rattle.std.proofs.Common.{◌<◌, rules, arith}
use Rattle.room.proofs.States.{welcomed, joined_again}
use Rattle.room.proofs.peer.Peer.connect.Goals as goal

pub unwrap-requires : goal.unwrap-requires
unwrap-requires c = let i : c.site-site.result < 16 = omega arith in search (rules, welcomed _ i c.end.ensures.state)

pub returns-clause-answer : goal.returns-clause-answer
returns-clause-answer c = let i : c.site-site.result < 16 = omega arith in search (rules, welcomed _ i c.end.ensures.state)

pub returns-clause-host : goal.returns-clause-host
returns-clause-host c = let i : c.site-site.result < 16 = omega arith in search (rules, joined_again _ i c.end.ensures.state)
