use Rattle.std.proofs.Common.{arith}
use Rattle.journal.proofs.Finds.{read_so}
use Rattle.journal.proofs.record.Record.read.Goals as goal

-- src/record.rt:104:5
pub returns-clause-read : goal.returns-clause-read
returns-clause-read c = rw c.find.ensures (read_so c.args.bytes.now (λ i. omega (arith, c.type_inv.bytes i)))
