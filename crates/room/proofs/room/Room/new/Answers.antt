use Rattle.std.proofs.Common.{[], ◌∷◌, ◌++◌, map, vec_items, sym, ap, subst, ◌∙◌, ap₂, arith, rules}
use Rattle.std.proofs.lemmas.List.{map-append}
use Rattle.room.specs.Scenes.{peer_of}
use Rattle.room.proofs.Rooms.{one_more_waits}
use Rattle.room.specs.Reached.{Reached}
use Rattle.room.proofs.ShownOpening.{reached_opening}
use Rattle.room.proofs.room.Room.new.Goals as goal

pub loop-site-preserved : goal.loop-site-preserved
loop-site-preserved c =
    ap (map peer_of) c.in_ok-push.ensures.items ∙ map-append peer_of (vec_items c.loop-site.peers) (c.in_ok-new.field-0 ∷ [])
    ∙ ap₂ (λ ws w. ws ++ w ∷ []) c.loop-site.invariant c.in_ok-new.ensures ∙ sym (one_more_waits c.loop-site.site (omega arith))

pub returns-clause-reached : goal.returns-clause-reached
returns-clause-reached c = subst Reached (sym (search rules)) reached_opening
