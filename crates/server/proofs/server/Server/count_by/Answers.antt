use Rattle.std.proofs.Common.{rules, tests, arith, ◌^◌, ◌≤◌, length}
use Rattle.std.proofs.lemmas.Iterator.{YieldsList-from_slice}
use Rattle.std.proofs.lemmas.Iterator.Adapters.{fits_from_length, at_most_from_yields_List}
use Rattle.server.proofs.server.Server.count_by.Goals as goal

-- no history is longer than 32 bits count, and each operation adds at most one
pub sum-requires-clause-fits : goal.sum-requires-clause-fits
sum-requires-clause-fits c =
    let few : length c.deref.result.now ≤ 4294967294 = search rules in
    fits_from_length _ _ 4294967294 (2 ^ 32) (at_most_from_yields_List (YieldsList-from_slice c.deref.result.now cc) few) c.map.ensures.closure (omega arith) (λ x r q k. search (rules, tests))
