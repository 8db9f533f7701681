use Rattle.std.proofs.Common.{ap, ◌∙◌, arith}
use Rattle.operation.specs.Edits.{site}
use Rattle.client.proofs.Joined.{own, length-pendings, read}
use Rattle.client.proofs.pending.Pending.at.Goals as goal

pub returns : goal.returns
returns c =
    let s = c.args.self.now in
    let l = length-pendings s in
    record { value = c.operation.ensures ∙ read s c.args.i (omega arith); own = ap site c.operation.ensures ∙ own s.site _ _ _ }
