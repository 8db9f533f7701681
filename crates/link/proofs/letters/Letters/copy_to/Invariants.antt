use Rattle.std.proofs.Common.{◌≡◌, ◌+◌, ◌*◌, length}
use Rattle.link.specs.Letters.{letters_at}
use Rattle.link.proofs.Chunks.{written}
use Rattle.link.proofs.letters.Letters.copy_to.Given as goal

abbrev pub invariant-loop-i : goal.invariant-loop-i
invariant-loop-i l = record {
  count : 16 * length l.blocks + length (letters_at l.rest) ≡ l.count;
  numbers : l.letters ≡ written (λ x. x.number) l.self.bytes.now (16 * l.i) l.fn.letters;
  authors : l.sites ≡ written (λ x. x.site) l.self.bytes.now (16 * l.i) l.fn.sites;
}
