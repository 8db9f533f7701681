use Rattle.std.proofs.Common.{rules}
use Rattle.room.specs.Scenes.{stage}
use Rattle.room.proofs.Seeings.{see_none, see_some}
use Rattle.room.proofs.peer.Peer.see_all.Goals as goal

pub loop-entry-preserved : goal.loop-entry-preserved
loop-entry-preserved c = search (rules, see_some (stage c.loop-entry.host c.loop-entry.self) c.in-Some.entry)

pub returns-then-not-branch : goal.returns-then-not-branch
returns-then-not-branch c = search (rules, see_some (stage c.loop-entry.host c.loop-entry.self) c.in-Some.entry)

pub returns-in_default : goal.returns-in_default
returns-in_default c = search (rules, see_none)
