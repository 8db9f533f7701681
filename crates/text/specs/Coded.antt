-- The kind of operations that the code has: letters are numbers, a letter's site is its operation's, and places have 32 bits.
use Rattle.std.specs.Prelude.{ℕ, List, []}
use Rattle.operation.specs.declared.operation.Operation.{Operation}
use Rattle.operation.specs.Edits.{site, apply, Fits, puts, strikes}
use Rattle.operation.specs.Transform.{transformed}
use Rattle.operation.specs.Laws.{Kind}
use Rattle.text.specs.Texts.{Letter, signed}

abbrev pub coded : Kind Letter
coded = record {
  Op = Operation ℕ;
  Text = List Letter;
  letters = λ t. t;
  empty = [];
  site = site;
  apply = λ o t. apply (signed o) t;
  Fits = λ o t. Fits (signed o) t;
  late = transformed;
  early = transformed;
  puts = λ o. puts (signed o);
  strikes = λ o t. strikes (signed o) t;
}
