use Rattle.std.proofs.Common.{refl, arith}
use Rattle.client.proofs.Joined.{length-pendings, written}
use Rattle.client.proofs.pending.Pending.set.Goals as goal

pub returns : goal.returns
returns c =
    let s = c.args.self.now in
    let v = c.args.slot in
    let l = length-pendings s in
    record { after = written s c.args.i v.kind v.place v.letter (omega arith); site = refl }
