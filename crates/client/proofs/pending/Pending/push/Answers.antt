use Rattle.std.proofs.Common.{◌∙◌, arith}
use Rattle.client.proofs.Joined.{length-pendings, pushed}
use Rattle.client.proofs.pending.Pending.push.Goals as goal

pub set-requires : goal.set-requires
set-requires c = rw length-pendings (omega arith)

pub returns : goal.returns
returns c =
    let s = c.args.self.now in
    let l = length-pendings s in
    record { after = c.set.ensures.after ∙ pushed s _ (omega arith); site = c.set.ensures.site }
