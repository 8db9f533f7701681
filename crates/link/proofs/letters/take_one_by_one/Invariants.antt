use Rattle.std.proofs.Common.{◌≡◌}
use Rattle.link.proofs.Chunks.{written}
use Rattle.link.proofs.letters.take_one_by_one.Given as goal

abbrev pub invariant-loop-i : goal.invariant-loop-i
invariant-loop-i l = record {
  numbers : l.letters ≡ written (λ x. x.number) l.bytes l.i l.fn.letters;
  authors : l.sites ≡ written (λ x. x.site) l.bytes l.i l.fn.sites;
}
