use Rattle.std.proofs.lemmas.List.Filters.{FiltersInPlace}
use Rattle.server.proofs.Lists.{is_unseen}
use Rattle.server.proofs.entries.keep_unseen.Given as goal

abbrev pub invariant-loop-i : goal.invariant-loop-i
invariant-loop-i l = FiltersInPlace (is_unseen l.revision) l.initial.list l.list l.count l.i
