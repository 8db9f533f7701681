use Rattle.std.proofs.Common.{◌-◌, length, take, ap, ◌∙◌, arith}
use Rattle.operation.specs.Edits.{insert_at}
use Rattle.text.proofs.Moves.{part_up}
use Rattle.text.proofs.Pairs.{pairs-inserted}
use Rattle.text.proofs.lent.insert.Goals as goal

pub returns : goal.returns
returns c =
    let xs = c.args.letters.now in
    let ss = c.args.sites.now in
    let p = c.args.place in
    pairs-inserted (length xs - 1) xs ss _ _ p c.args.letter c.args.site (omega arith) (omega arith) (omega arith)
    (part_up xs c.shift_up.new.part p c.args.letter (omega arith) c.shift_up.ensures)
    (part_up ss c.shift_up-2.new.part p c.args.site (omega arith) c.shift_up-2.ensures
    ∙ ap (λ n. insert_at p c.args.site (take (n - 1) ss)) c.requires.level)
