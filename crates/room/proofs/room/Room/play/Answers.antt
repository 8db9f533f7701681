use Rattle.std.proofs.Common.{rules, sym, refl, ap, ◌∙◌, arith}
use Rattle.std.proofs.lemmas.Result.{on_ok_weaker}
use Rattle.room.specs.declared.command.Command.TheVariants as command
use Rattle.room.specs.Scenes.{room_state, stage, acting, playing}
use Rattle.room.proofs.Rooms.{peer_plays}
use Rattle.room.proofs.Settling.{keeps_so}
use Rattle.room.proofs.room.Room.play.Goals as goal

pub returns-in-Some-clause-state : goal.returns-in-Some-clause-state
returns-in-Some-clause-state c =
    let was = c.args.self.now in
    let it = c.in-Some.ensures in
    on_ok_weaker c.act.result
    (λ e.
    peer_plays was.host was.peers.items c.from.result c.in-Ask.action c.in-Some.peer.now (let h = it.variant.0 refl in omega arith) (let f = was.four in omega arith) c.act.new.host c.act.new.self
    (e ∙ ap (λ p. acting c.in-Ask.action (stage was.host p)) it.value)
    ∙ ap (λ d. playing d (room_state was)) (ap (λ w. command.Ask w c.in-Ask.action) c.from.ensures ∙ sym c.in-Ask.is))
    c.act.ensures

pub returns-in-Some-clause-reached : goal.returns-in-Some-clause-reached
returns-in-Some-clause-reached c = on_ok_weaker c.act.result (keeps_so c.args.command (room_state c.args.self.now) _) (returns-in-Some-clause-state c)

pub returns-in-None-clause-reached : goal.returns-in-None-clause-reached
returns-in-None-clause-reached c = keeps_so c.args.command _ _ (search rules)

pub returns-in-Crash-clause-reached : goal.returns-in-Crash-clause-reached
returns-in-Crash-clause-reached c = on_ok_weaker c.crash.result (keeps_so c.args.command _ _) (search rules)

pub returns-in-Settle-clause-reached : goal.returns-in-Settle-clause-reached
returns-in-Settle-clause-reached c = on_ok_weaker c.settle.result (keeps_so c.args.command _ _) (search rules)
