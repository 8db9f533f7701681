-- Paths of steps: one after another, by a weaker rule, and from the start on.
use Rattle.operation.specs.Laws.{Kind}
use Rattle.network.specs.Runs.{Net, Step, PathBy, here, onward, Path, Reachable}

module _ {A : Type 0} (k : Kind A) where
  -- which steps there may be
  abbrev pub Rule : Type 1
  Rule = (n m : Net k) → Step k n m → Type 0

  pub path_append : (P : Rule) {n m o : Net k} → PathBy k P n m → PathBy k P m o → PathBy k P n o
  path_append P p here = p
  path_append P p (onward q s h) = onward (path_append P p q) s h

  pub path_weaker : (P Q : Rule) → ((n m : Net k) (s : Step k n m) → P n m s → Q n m s) → {n m : Net k} → PathBy k P n m → PathBy k Q n m
  path_weaker P Q h here = here
  path_weaker P Q h (onward {m} {o} p s u) = onward (path_weaker P Q h p) s (h m o s u)

  pub as_path : {P : Rule} {n m : Net k} → PathBy k P n m → Path k n m
  as_path {P} p = path_weaker P _ (λ n m s h. tt) p

  pub reach_path : {P : Rule} {n m : Net k} → Reachable k n → PathBy k P n m → Reachable k m
  reach_path r p = path_append _ r (as_path p)
