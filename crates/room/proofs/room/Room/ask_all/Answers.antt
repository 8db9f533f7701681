use Rattle.std.proofs.Common.{sym, refl, ap, ◌∙◌, arith}
use Rattle.room.specs.Scenes.{acting, with, with_each}
use Rattle.room.proofs.Rooms.{done_with, each_more}
use Rattle.room.proofs.room.Room.ask_all.Goals as goal

pub loop-peer-init : goal.loop-peer-init
unfolding with_each
loop-peer-init c = refl

pub loop-peer-preserved : goal.loop-peer-preserved
loop-peer-preserved c =
    let l = c.loop-peer in
    let f = acting c.args.action in
    done_with l.host l.peer-items l.peer-index c.peer-item.result (omega arith) f c.act.new.host c.act.new.self c.in_ok-act.ensures
    ∙ ap (with l.peer-index f) l.invariant ∙ sym (each_more l.peer-index f _)
