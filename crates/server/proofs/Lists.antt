-- Leaving out entries.
use Rattle.std.proofs.Common.{◌≡◌, ℕ, Bool, cond, leb, List, [], ◌∷◌, filter, refl, ap}
use Rattle.operation.specs.declared.entry.Entry.{Entry}
use Rattle.server.specs.Sessions.{unseen}

module _ {O : Type 0} where
  abbrev pub is_unseen : ℕ → Entry O → Bool
  is_unseen r e = leb r e.place

  pub unseen_is : (r : ℕ) (es : List (Entry O)) → filter (is_unseen r) es ≡ unseen r es
  unfolding unseen
  unseen_is r [] = refl
  unseen_is r (e ∷ es) = ap (λ z. cond (leb r e.place) (e ∷ z) z) (unseen_is r es)
