-- What an operation does to a text. A text is the list of its letters, of any type.
use Rattle.std.specs.Prelude.{ℕ, zero, suc, ◌<◌, ◌≤◌, List, [], ◌∷◌, length, take, drop}
use Rattle.operation.specs.declared.operation.Operation.{Operation}
use Rattle.operation.specs.declared.operation.Operation.TheVariants.{Noop, Insert, Delete}

-- the list with x before what stood at the place; beyond the end, at the end
unfoldable pub insert_at : {A : Type 0} → ℕ → A → List A → List A
insert_at zero x ls = x ∷ ls
insert_at (suc p) x [] = x ∷ []
insert_at (suc p) x (l ∷ ls) = l ∷ insert_at p x ls

-- the list without what stood at the place; beyond the end, as it is
unfoldable pub delete_at : {A : Type 0} → ℕ → List A → List A
delete_at p [] = []
delete_at zero (l ∷ ls) = ls
delete_at (suc p) (l ∷ ls) = l ∷ delete_at p ls

-- the number of the client that made the operation
abbrev pub site : {A : Type 0} → Operation A → ℕ
site (Noop i) = i
site (Insert i p x) = i
site (Delete i p) = i

-- the text after the operation
abbrev pub apply : {A : Type 0} → Operation A → List A → List A
apply (Noop i) t = t
apply (Insert i p x) t = insert_at p x t
apply (Delete i p) t = delete_at p t

-- the place is within the text; a letter may be put in at the end
abbrev pub Fits : {A : Type 0} → Operation A → List A → Type 0
Fits (Noop i) t = Unit {0}
Fits (Insert i p x) t = p ≤ length t
Fits (Delete i p) t = p < length t

-- the letters that the operation puts in
abbrev pub puts : {A : Type 0} → Operation A → List A
puts (Noop i) = []
puts (Insert i p x) = x ∷ []
puts (Delete i p) = []

-- the letters that it strikes out of a text
abbrev pub strikes : {A : Type 0} → Operation A → List A → List A
strikes (Noop i) t = []
strikes (Insert i p x) t = []
strikes (Delete i p) t = take 1 (drop p t)

-- the same operation on other letters
abbrev pub rename : {A B : Type 0} → (A → B) → Operation A → Operation B
rename f (Noop i) = Noop i
rename f (Insert i p x) = Insert i p (f x)
rename f (Delete i p) = Delete i p

-- the same operation at another place
abbrev pub moved_to : {A : Type 0} → ℕ → Operation A → Operation A
moved_to q (Noop i) = Noop i
moved_to q (Insert i p x) = Insert i q x
moved_to q (Delete i p) = Delete i q
