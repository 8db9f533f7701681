use Rattle.std.proofs.Common.{rules, tests, ◌==◌}
use Rattle.std.proofs.lemmas.Iterator.Splits.{YieldsList-from_slice_split}
use Rattle.std.proofs.lemmas.Iterator.Consumers.{map_from_collect}
use Rattle.replay.proofs.command.parse.Goals as goal

pub returns : goal.returns
returns c =
    let line = c.args.line.now in
    let words = map_from_collect c.collect.result c.collect.ensures.ran (YieldsList-from_slice_split _ (λ b. b == 32) line (cc) (cc) (cc) (λ x b q k. search (rules, tests))) in
    search (rules, words)
