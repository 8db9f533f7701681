-- The kind of operations that the code has, with letters of any type and places without a limit: a letter stands in a text with the site that typed it.
use Rattle.std.specs.Prelude.{ℕ, List, []}
use Rattle.operation.specs.declared.operation.Operation.{Operation}
use Rattle.operation.specs.Edits.{site, apply, Fits, puts, strikes, rename}
use Rattle.operation.specs.Transform.{transform}
use Rattle.operation.specs.Laws.{Kind}

-- a letter with the site that typed it
pub record Signed (N : Type 0) : Type 0 where
  pub letter : N
  pub site : ℕ

-- an operation whose letter is of its site
abbrev pub signed : {N : Type 0} → Operation N → Operation (Signed N)
signed o = rename (λ x. record { letter = x; site = site o }) o

abbrev pub written : (N : Type 0) → Kind (Signed N)
written N = record {
  Op = Operation N;
  Text = List (Signed N);
  letters = λ t. t;
  empty = [];
  site = site;
  apply = λ o t. apply (signed o) t;
  Fits = λ o t. Fits (signed o) t;
  late = transform;
  early = transform;
  puts = λ o. puts (signed o);
  strikes = λ o t. strikes (signed o) t;
}

-- a letter with a name that no other typed letter has: its number, and how many were typed before it
pub record Named : Type 0 where
  pub number : ℕ
  pub serial : ℕ
