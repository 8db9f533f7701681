use Rattle.std.proofs.Common.{◌-◌, length, take, sym, ap, ◌∙◌, arith}
use borrow.Rule.Slice.PartMut.{put_mid}
use Rattle.text.proofs.Moves.{part_down}
use Rattle.text.proofs.Pairs.{pairs-deleted}
use Rattle.text.proofs.lent.delete.Goals as goal

pub returns : goal.returns
returns c =
    let xs = c.args.letters.now in
    let ss = c.args.sites.now in
    let p = c.args.place in
    pairs-deleted (length xs - 1) xs ss _ _ p (omega arith) (omega arith)
    (part_down xs c.shift_down.new.part p (omega arith) c.shift_down.ensures)
    (ap (λ n. take (n - 1) (put_mid p (length ss - p) ss c.shift_down-2.new.part)) (sym c.requires.level)
    ∙ part_down ss c.shift_down-2.new.part p (omega arith) c.shift_down-2.ensures)
