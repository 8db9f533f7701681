-- What an operation becomes that another was done before.
use Rattle.std.specs.Prelude.{ℕ, ◌+◌, ◌-◌, ◌^◌, min, cond, ◌&&◌, ◌||◌, List, [], ◌∷◌, map, ◌==◌, nat_le, nat_lt}
use Rattle.operation.specs.declared.operation.Operation.{Operation}
use Rattle.operation.specs.declared.operation.Operation.TheVariants.{Noop, Insert, Delete}

-- THE TABLE: a, as it is to be done after b was. Of two that insert at one place the lower site's letter comes first.
abbrev pub transform : {A : Type 0} → Operation A → Operation A → Operation A
transform (Noop i) b = Noop i
transform (Insert i p x) (Noop j) = Insert i p x
transform (Insert i p x) (Insert j q y) = cond (nat_lt q p || (q == p && nat_lt j i)) (Insert i (p + 1) x) (Insert i p x)
transform (Insert i p x) (Delete j q) = cond (nat_lt q p) (Insert i (p - 1) x) (Insert i p x)
transform (Delete i p) (Noop j) = Delete i p
transform (Delete i p) (Insert j q y) = cond (nat_le q p) (Delete i (p + 1)) (Delete i p)
transform (Delete i p) (Delete j q) = cond (nat_lt q p) (Delete i (p - 1)) (cond (q == p) (Noop i) (Delete i p))

-- The code holds a place in 32 bits: one that is higher becomes the highest. No text is that long.
abbrev pub highest : ℕ
highest = 2 ^ 32 - 1

abbrev pub bounded : {A : Type 0} → Operation A → Operation A
bounded (Noop i) = Noop i
bounded (Insert i p x) = Insert i (min p highest) x
bounded (Delete i p) = Delete i (min p highest)

-- the table, in 32 bits
abbrev pub transformed : {A : Type 0} → Operation A → Operation A → Operation A
transformed a b = bounded (transform a b)

-- one operation past each of a list, and these past it
pub record Passed (O : Type 0) : Type 0 where
  pub one : O
  pub others : List O

abbrev pub map_passed : {O P : Type 0} → (O → P) → Passed O → Passed P
map_passed f r = record { one = f r.one; others = map f r.others }

abbrev pub behind : {O : Type 0} → O → Passed O → Passed O
behind b r = record { one = r.one; others = b ∷ r.others }

-- a past the first by f, then that past the second as the second then is, and so on; each of the list past a by g, as a is by then
unfoldable pub through : {O : Type 0} → (O → O → O) → (O → O → O) → O → List O → Passed O
through f g a [] = record { one = a; others = [] }
through f g a (b ∷ bs) = behind (g b a) (through f g (f a b) bs)
