use Rattle.std.proofs.Common.{refl, arith}
use Rattle.client.proofs.Joined.{moved_down, shifted}
use Rattle.client.proofs.pending.Pending.remove_first.Goals as goal

pub returns : goal.returns
returns c =
    let s = c.args.self.now in
    record {
      after = shifted s _ _ _
          (moved_down s.count s.kinds c.copy_within.new.self (omega arith) (omega arith) c.copy_within.ensures.after)
          (moved_down s.count s.places c.copy_within-2.new.self (omega arith) (omega arith) c.copy_within-2.ensures.after)
          (moved_down s.count s.letters c.copy_within-3.new.self (omega arith) (omega arith) c.copy_within-3.ensures.after);
      site = refl;
    }
