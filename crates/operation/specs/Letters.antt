-- Letters of a text: which ones stand there, at most once or more often, and in which order.
use Rattle.std.specs.Prelude.{List, [], ◌∷◌}
use mathlib.Core.List.{Memᴰ}

infix 50 ◌∈◌
-- x is one of the list
abbrev pub ◌∈◌ : {A : Type 0} → A → List A → Type 0
x ∈ xs = Memᴰ x xs

-- no letter stands twice
unfoldable pub Once : {A : Type 0} → List A → Type 0
Once [] = Unit {0}
Once (x ∷ xs) = (x ∈ xs → ⊥) × Once xs

-- the lists have no letter in common
abbrev pub Apart : {A : Type 0} → List A → List A → Type 0
Apart {A} xs ys = (x : A) → x ∈ xs → x ∈ ys → ⊥

-- x stands before y
pub data Before {A : Type 0} (x y : A) : List A → Type 0 where
  here : {xs : List A} → y ∈ xs → Before x y (x ∷ xs)
  there : {z : A} {xs : List A} → Before x y xs → Before x y (z ∷ xs)
