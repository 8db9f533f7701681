-- That what a store in memory has read is what it holds: the laws that a store has to keep, which stand here since its code gives them.
use Rattle.std.proofs.Common.{◌≡◌, ℕ, List, length, take, ◌==◌, arith, ap, sym, ◌∙◌}
use Rattle.std.specs.Prelude.{IsTrue}
use Rattle.std.proofs.lemmas.Bool.{eqb-true}
use Rattle.std.proofs.lemmas.List.{length-take, take_all, take_min}

module _ (r : ℕ) (xs : List ℕ) where
  pub taken_first : take r xs ≡ take (length (take r xs)) xs
  taken_first = sym (take_min r xs) ∙ ap (λ k. take k xs) (sym (length-take r xs))

  pub taken_whole : IsTrue (r == length xs) → take r xs ≡ xs
  taken_whole end = take_all r xs (omega (arith, eqb-true r (length xs) end))
