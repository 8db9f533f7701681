use Rattle.std.proofs.Common.{vec_items, sym, ◌∙◌, rules, tests}
use Rattle.std.proofs.lemmas.Iterator.{YieldsList-from_slice}
use Rattle.std.proofs.lemmas.Iterator.Search.{any_from_yields_List}
use Rattle.room.specs.Scenes.{stage, ended}
use Rattle.room.proofs.Rooms.{any_peer}
use Rattle.room.proofs.room.Room.any_ended.Goals as goal

pub returns : goal.returns
returns c =
    let r = c.args.self.now in
    any_from_yields_List (λ w. ended (stage r.host w)) _ _ c.any.result c.any.ensures.ran (YieldsList-from_slice (vec_items r.peers) (cc)) (λ x b q k. search (rules, tests))
    ∙ sym (any_peer r)
