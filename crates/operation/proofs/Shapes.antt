-- What the table can make of an operation: the same kind, site and letter, at a place that is at most one higher; or of a deletion nothing.
use Rattle.std.proofs.Common.{◌≡◌, ℕ, ◌+◌, ◌-◌, ◌^◌, ◌<◌, ◌≤◌, cond, eqb, ltb, leb, List, [], refl, arith}
use Rattle.std.proofs.lemmas.Bool.{cond_both}
use Rattle.operation.specs.declared.operation.Operation.{Operation}
use Rattle.operation.specs.declared.operation.Operation.TheVariants.{Noop, Insert, Delete}
use Rattle.operation.specs.Edits.{site, puts, strikes}
use Rattle.operation.specs.Transform.{transform}

-- the place can grow by n and still fit 32 bits
abbrev pub Room : {A : Type 0} → ℕ → Operation A → Type 0
Room n (Noop i) = Unit {0}
Room n (Insert i p x) = p + n < 2 ^ 32
Room n (Delete i p) = p + n < 2 ^ 32

data Shape {A : Type 0} : Operation A → Operation A → Type 0 where
  nothing : {i : ℕ} → Shape (Noop i) (Noop i)
  inserts : {i p q : ℕ} {x : A} → q ≤ p + 1 → Shape (Insert i p x) (Insert i q x)
  deletes : {i p q : ℕ} → q ≤ p + 1 → Shape (Delete i p) (Delete i q)
  gone : {i p : ℕ} → Shape (Delete i p) (Noop i)

module _ {A : Type 0} where
  shape : (a b : Operation A) → Shape a (transform a b)
  shape (Noop i) b = nothing
  shape (Insert i p x) (Noop j) = inserts (omega arith)
  shape (Insert i p x) (Insert j q y) =
      cond_both _ (Insert i (p + 1) x) (Insert i p x) (Shape (Insert i p x)) (λ _. inserts (omega arith)) (λ _. inserts (omega arith))
  shape (Insert i p x) (Delete j q) =
      cond_both (ltb q p) (Insert i (p - 1) x) (Insert i p x) (Shape (Insert i p x)) (λ _. inserts (omega arith)) (λ _. inserts (omega arith))
  shape (Delete i p) (Noop j) = deletes (omega arith)
  shape (Delete i p) (Insert j q y) =
      cond_both (leb q p) (Delete i (p + 1)) (Delete i p) (Shape (Delete i p)) (λ _. deletes (omega arith)) (λ _. deletes (omega arith))
  shape (Delete i p) (Delete j q) =
      cond_both (ltb q p) (Delete i (p - 1)) (cond (eqb q p) (Noop i) (Delete i p)) (Shape (Delete i p)) (λ _. deletes (omega arith))
      (λ _. cond_both (eqb q p) (Noop i) (Delete i p) (Shape (Delete i p)) (λ _. gone) (λ _. deletes (omega arith)))

  site_of : {a r : Operation A} → Shape a r → site r ≡ site a
  site_of nothing = refl
  site_of (inserts h) = refl
  site_of (deletes h) = refl
  site_of gone = refl

  puts_of : {a r : Operation A} → Shape a r → puts r ≡ puts a
  puts_of nothing = refl
  puts_of (inserts h) = refl
  puts_of (deletes h) = refl
  puts_of gone = refl

  room_of : (n : ℕ) {a r : Operation A} → Shape a r → Room (n + 1) a → Room n r
  room_of n nothing m = tt
  room_of n (inserts h) m = omega arith
  room_of n (deletes h) m = omega arith
  room_of n gone m = tt

  unstriking_of : {i p : ℕ} {x : A} {r : Operation A} (t : List A) → Shape (Insert i p x) r → strikes r t ≡ []
  unstriking_of t (inserts h) = refl

  pub site_stays : (a b : Operation A) → site (transform a b) ≡ site a
  site_stays a b = site_of (shape a b)

  pub puts_stay : (a b : Operation A) → puts (transform a b) ≡ puts a
  puts_stay a b = puts_of (shape a b)

  pub room_less : (n : ℕ) (a b : Operation A) → Room (n + 1) a → Room n (transform a b)
  room_less n a b = room_of n (shape a b)

  pub insert_unstriking : (i p : ℕ) (x : A) (b : Operation A) (t : List A) → strikes (transform (Insert i p x) b) t ≡ []
  insert_unstriking i p x b t = unstriking_of t (shape (Insert i p x) b)
