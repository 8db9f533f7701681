-- Which letters stand in a text after an operation, how often, and in which order.
use Rattle.std.proofs.Common.{◌≡◌, ℕ, zero, suc, ◌⊎◌, List, [], ◌∷◌, take, drop, sym, refl, subst, inl, inr, ⊎_elim}
use mathlib.Core.List.Memᴰ
use Rattle.operation.specs.declared.operation.Operation.{Operation}
use Rattle.operation.specs.declared.operation.Operation.TheVariants.{Noop, Insert, Delete}
use Rattle.operation.specs.Letters.{◌∈◌, Once, Apart, Before, here, there}
use Rattle.operation.specs.Edits.{insert_at, delete_at, apply, puts, strikes}

module _ {A : Type 0} where
  -- an insertion: x stands there, and all that stood there
  inserted_stands : (p : ℕ) (x : A) (t : List A) → x ∈ insert_at p x t
  unfolding insert_at
  inserted_stands zero x t = Memᴰ.head refl
  inserted_stands (suc p) x [] = Memᴰ.head refl
  inserted_stands (suc p) x (l ∷ t) = Memᴰ.tail (inserted_stands p x t)

  insert_keeps : (p : ℕ) (x z : A) (t : List A) → z ∈ t → z ∈ insert_at p x t
  unfolding insert_at
  insert_keeps zero x z t m = Memᴰ.tail m
  insert_keeps (suc p) x z [] m = Memᴰ.tail m
  insert_keeps (suc p) x z (l ∷ t) m = ⊎_elim (λ e. Memᴰ.head e) (λ k. Memᴰ.tail (insert_keeps p x z t k)) (Memᴰ.cases_cons m)

  insert_only : (p : ℕ) (x z : A) (t : List A) → z ∈ insert_at p x t → (z ≡ x) ⊎ z ∈ t
  unfolding insert_at
  insert_only zero x z t m = Memᴰ.cases_cons m
  insert_only (suc p) x z [] m = Memᴰ.cases_cons m
  insert_only (suc p) x z (l ∷ t) m = ⊎_elim (λ e. inr (Memᴰ.head e))
      (λ k. ⊎_elim (λ e. inl e) (λ a. inr (Memᴰ.tail a)) (insert_only p x z t k)) (Memᴰ.cases_cons m)

  -- a deletion: nothing stands there that did not, and all that was not struck
  delete_only : (p : ℕ) (z : A) (t : List A) → z ∈ delete_at p t → z ∈ t
  unfolding delete_at
  delete_only p z [] m = m
  delete_only zero z (l ∷ t) m = Memᴰ.tail m
  delete_only (suc p) z (l ∷ t) m = ⊎_elim (λ e. Memᴰ.head e) (λ k. Memᴰ.tail (delete_only p z t k)) (Memᴰ.cases_cons m)

  delete_keeps : (p : ℕ) (z : A) (t : List A) → z ∈ t → z ∈ take 1 (drop p t) ⊎ z ∈ delete_at p t
  unfolding delete_at
  delete_keeps p z [] m = inr m
  delete_keeps zero z (l ∷ t) m = ⊎_elim (λ e. inl (Memᴰ.head e)) (λ k. inr k) (Memᴰ.cases_cons m)
  delete_keeps (suc p) z (l ∷ t) m = ⊎_elim (λ e. inr (Memᴰ.head e)) (λ k. ⊎_elim (λ s. inl s) (λ r. inr (Memᴰ.tail r)) (delete_keeps p z t k)) (Memᴰ.cases_cons m)

  pub struck_in : (p : ℕ) (z : A) (t : List A) → z ∈ take 1 (drop p t) → z ∈ t
  struck_in zero z [] m = m
  struck_in (suc p) z [] m = m
  struck_in zero z (l ∷ t) m = ⊎_elim (λ e. Memᴰ.head e) (λ k. absurd (Memᴰ.not-nil k)) (Memᴰ.cases_cons m)
  struck_in (suc p) z (l ∷ t) m = Memᴰ.tail (struck_in p z t m)

  delete_takes : (p : ℕ) (z : A) (t : List A) → Once t → z ∈ take 1 (drop p t) → z ∈ delete_at p t → ⊥
  unfolding delete_at Once
  delete_takes p z [] o m n = Memᴰ.not-nil n
  delete_takes zero z (l ∷ t) o m n = ⊎_elim (λ e. o.0 (Memᴰ.cast (sym e) n)) (λ k. Memᴰ.not-nil k) (Memᴰ.cases_cons m)
  delete_takes (suc p) z (l ∷ t) o m n = ⊎_elim (λ e. o.0 (Memᴰ.cast (sym e) (struck_in p z t m))) (λ k. delete_takes p z t o.1 m k) (Memᴰ.cases_cons n)

  -- at most once
  insert_once : (p : ℕ) (x : A) (t : List A) → Once t → (x ∈ t → ⊥) → Once (insert_at p x t)
  unfolding insert_at Once
  insert_once zero x t o n = (n, o)
  insert_once (suc p) x [] o n = (n, tt)
  insert_once (suc p) x (l ∷ t) o n =
      ((λ m. ⊎_elim (λ e. n (Memᴰ.head (sym e))) o.0 (insert_only p x l t m)), insert_once p x t o.1 (λ m. n (Memᴰ.tail m)))

  delete_once : (p : ℕ) (t : List A) → Once t → Once (delete_at p t)
  unfolding delete_at Once
  delete_once p [] o = tt
  delete_once zero (l ∷ t) o = o.1
  delete_once (suc p) (l ∷ t) o = ((λ m. o.0 (delete_only p l t m)), delete_once p t o.1)

  -- the order of two letters
  abbrev BeforeIn : A → A → List A → Type 0
  BeforeIn x y [] = ⊥
  BeforeIn x y (z ∷ t) = ((x ≡ z) × y ∈ t) ⊎ Before x y t

  before_in : (x y : A) {t : List A} → Before x y t → BeforeIn x y t
  before_in x y (here m) = inl (refl, m)
  before_in x y (there b) = inr b

  before_here : (x y z : A) (t : List A) → x ≡ z → y ∈ t → Before x y (z ∷ t)
  before_here x y z t e m = subst (λ k. Before x y (k ∷ t)) e (here m)

  insert_order : (p : ℕ) (z x y : A) (t : List A) → Before x y t → Before x y (insert_at p z t)
  unfolding insert_at
  insert_order zero z x y t b = there b
  insert_order (suc p) z x y [] b = there b
  insert_order (suc p) z x y (l ∷ t) b = ⊎_elim (λ e. before_here x y l (insert_at p z t) e.0 (insert_keeps p z y t e.1)) (λ k. there (insert_order p z x y t k)) (before_in x y b)

  insert_order_back : (p : ℕ) (z x y : A) (t : List A) → (x ≡ z → ⊥) → (y ≡ z → ⊥) → Before x y (insert_at p z t) → Before x y t
  unfolding insert_at
  insert_order_back zero z x y t n m b = ⊎_elim (λ e. absurd (n e.0)) (λ k. k) (before_in x y b)
  insert_order_back (suc p) z x y [] n m b = ⊎_elim (λ e. absurd (n e.0)) (λ k. k) (before_in x y b)
  insert_order_back (suc p) z x y (l ∷ t) n m b = ⊎_elim
      (λ e. before_here x y l t e.0 (⊎_elim (λ f. absurd (m f)) (λ k. k) (insert_only p z y t e.1)))
      (λ k. there (insert_order_back p z x y t n m k)) (before_in x y b)

  delete_order : (p : ℕ) (x y : A) (t : List A) → (x ∈ take 1 (drop p t) → ⊥) → (y ∈ take 1 (drop p t) → ⊥) → Before x y t → Before x y (delete_at p t)
  unfolding delete_at
  delete_order p x y [] n m b = b
  delete_order zero x y (l ∷ t) n m b = ⊎_elim (λ e. absurd (n (Memᴰ.head e.0))) (λ k. k) (before_in x y b)
  delete_order (suc p) x y (l ∷ t) n m b = ⊎_elim
      (λ e. before_here x y l (delete_at p t) e.0 (⊎_elim (λ s. absurd (m s)) (λ r. r) (delete_keeps p y t e.1))) (λ k. there (delete_order p x y t n m k)) (before_in x y b)

  delete_order_back : (p : ℕ) (x y : A) (t : List A) → Before x y (delete_at p t) → Before x y t
  unfolding delete_at
  delete_order_back p x y [] b = b
  delete_order_back zero x y (l ∷ t) b = there b
  delete_order_back (suc p) x y (l ∷ t) b = ⊎_elim (λ e. before_here x y l t e.0 (delete_only p y t e.1)) (λ k. there (delete_order_back p x y t k)) (before_in x y b)

  -- the same of any operation
  pub put_stands : (a : Operation A) (t : List A) (x : A) → x ∈ puts a → x ∈ apply a t
  put_stands (Noop i) t x m = absurd (Memᴰ.not-nil m)
  put_stands (Insert i p z) t x m = ⊎_elim (λ e. Memᴰ.cast e (inserted_stands p z t)) (λ k. absurd (Memᴰ.not-nil k)) (Memᴰ.cases_cons m)
  put_stands (Delete i p) t x m = absurd (Memᴰ.not-nil m)

  pub struck_or_stays : (a : Operation A) (t : List A) (x : A) → x ∈ t → x ∈ strikes a t ⊎ x ∈ apply a t
  struck_or_stays (Noop i) t x m = inr m
  struck_or_stays (Insert i p z) t x m = inr (insert_keeps p z x t m)
  struck_or_stays (Delete i p) t x m = delete_keeps p x t m

  pub struck_goes : (a : Operation A) (t : List A) (x : A) → Once t → x ∈ strikes a t → x ∈ apply a t → x ∈ puts a
  struck_goes (Noop i) t x o m n = absurd (Memᴰ.not-nil m)
  struck_goes (Insert i p z) t x o m n = absurd (Memᴰ.not-nil m)
  struck_goes (Delete i p) t x o m n = absurd (delete_takes p x t o m n)

  pub comes_from : (a : Operation A) (t : List A) (x : A) → x ∈ apply a t → x ∈ puts a ⊎ x ∈ t
  comes_from (Noop i) t x m = inr m
  comes_from (Insert i p z) t x m = ⊎_elim (λ e. inl (Memᴰ.head e)) (λ k. inr k) (insert_only p z x t m)
  comes_from (Delete i p) t x m = inr (delete_only p x t m)

  pub struck_stood : (a : Operation A) (t : List A) (x : A) → x ∈ strikes a t → x ∈ t
  struck_stood (Noop i) t x m = absurd (Memᴰ.not-nil m)
  struck_stood (Insert i p z) t x m = absurd (Memᴰ.not-nil m)
  struck_stood (Delete i p) t x m = struck_in p x t m

  pub stays_once : (a : Operation A) (t : List A) → Once t → Once (puts a) → Apart (puts a) t → Once (apply a t)
  stays_once (Noop i) t o u n = o
  stays_once (Insert i p z) t o u n = insert_once p z t o (n z (Memᴰ.head refl))
  stays_once (Delete i p) t o u n = delete_once p t o

  pub order_on : (a : Operation A) (t : List A) (x y : A) → (x ∈ strikes a t → ⊥) → (y ∈ strikes a t → ⊥) → Before x y t → Before x y (apply a t)
  order_on (Noop i) t x y n m b = b
  order_on (Insert i p z) t x y n m b = insert_order p z x y t b
  order_on (Delete i p) t x y n m b = delete_order p x y t n m b

  pub order_back : (a : Operation A) (t : List A) (x y : A) → (x ∈ puts a → ⊥) → (y ∈ puts a → ⊥) → Before x y (apply a t) → Before x y t
  order_back (Noop i) t x y n m b = b
  order_back (Insert i p z) t x y n m b = insert_order_back p z x y t (λ e. n (Memᴰ.head e)) (λ e. m (Memᴰ.head e)) b
  order_back (Delete i p) t x y n m b = delete_order_back p x y t b
