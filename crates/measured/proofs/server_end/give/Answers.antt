use Rattle.std.proofs.Common.{rules}
use Rattle.measured.proofs.server_end.give.Goals as goal

pub returns : goal.returns
returns c = (c.in_ok-text.text, search rules, search rules)
