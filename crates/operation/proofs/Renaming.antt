-- Mapping the letters commutes with single-letter operations.
use Rattle.std.proofs.Common.{◌≡◌, ℕ, zero, suc, ◌+◌, ◌-◌, ◌<◌, ◌≤◌, Bool, true, false, cond, ◌&&◌, ◌||◌, eqb, ltb, leb, List, [], ◌∷◌, map, take, drop, sym, refl, ap, ◌∙◌, subst, ap₂}
use Rattle.std.proofs.lemmas.List.{length-map}
use Rattle.operation.specs.declared.operation.Operation.{Operation}
use Rattle.operation.specs.declared.operation.Operation.TheVariants.{Noop, Insert, Delete}
use Rattle.operation.specs.Edits.{insert_at, delete_at, site, apply, Fits, puts, strikes, rename}
use Rattle.operation.specs.Transform.{transform, map_passed, behind, through}
use Rattle.operation.specs.Laws.{singles, Renames}

-- a map that commutes with two transformations commutes with going through a list
map-through : {O P : Type 0} (h : O → P) (f g : O → O → O) (f' g' : P → P → P) → ((a b : O) → f' (h a) (h b) ≡ h (f a b)) → ((a b : O) → g' (h a) (h b) ≡ h (g a b)) →
    (a : O) (bs : List O) → through f' g' (h a) (map h bs) ≡ map_passed h (through f g a bs)
unfolding through
map-through h f g f' g' p q a [] = refl
map-through h f g f' g' p q a (b ∷ bs) =
    ap₂ (λ (c : _) (o : _). behind c (through f' g' o (map h bs))) (q b a) (p a b) ∙ ap (behind (h (g b a))) (map-through h f g f' g' p q (f a b) bs)

module _ {A B : Type 0} (f : A → B) where
  map-insert_at : (p : ℕ) (x : A) (t : List A) → insert_at p (f x) (map f t) ≡ map f (insert_at p x t)
  unfolding insert_at
  map-insert_at zero x t = refl
  map-insert_at (suc p) x [] = refl
  map-insert_at (suc p) x (l ∷ t) = ap (◌∷◌ (f l)) (map-insert_at p x t)

  map-delete_at : (p : ℕ) (t : List A) → delete_at p (map f t) ≡ map f (delete_at p t)
  unfolding delete_at
  map-delete_at p [] = refl
  map-delete_at zero (l ∷ t) = refl
  map-delete_at (suc p) (l ∷ t) = ap (◌∷◌ (f l)) (map-delete_at p t)

  map-struck : (p : ℕ) (t : List A) → take 1 (drop p (map f t)) ≡ map f (take 1 (drop p t))
  map-struck zero [] = refl
  map-struck (suc p) [] = refl
  map-struck zero (l ∷ t) = refl
  map-struck (suc p) (l ∷ t) = map-struck p t

  cond-rename : (b : Bool) (x y : Operation A) → cond b (rename f x) (rename f y) ≡ rename f (cond b x y)
  cond-rename true x y = refl
  cond-rename false x y = refl

  site-rename : (a : Operation A) → site (rename f a) ≡ site a
  site-rename (Noop i) = refl
  site-rename (Insert i p x) = refl
  site-rename (Delete i p) = refl

  apply-rename : (a : Operation A) (t : List A) → apply (rename f a) (map f t) ≡ map f (apply a t)
  apply-rename (Noop i) t = refl
  apply-rename (Insert i p x) t = map-insert_at p x t
  apply-rename (Delete i p) t = map-delete_at p t

  fits-rename : (a : Operation A) (t : List A) → Fits a t → Fits (rename f a) (map f t)
  fits-rename (Noop i) t h = tt
  fits-rename (Insert i p x) t h = subst (λ n. p ≤ n) (sym (length-map t f)) h
  fits-rename (Delete i p) t h = subst (λ n. p < n) (sym (length-map t f)) h

  fits_renamed : (a : Operation A) (t : List A) → Fits (rename f a) (map f t) → Fits a t
  fits_renamed (Noop i) t h = tt
  fits_renamed (Insert i p x) t h = subst (λ n. p ≤ n) (length-map t f) h
  fits_renamed (Delete i p) t h = subst (λ n. p < n) (length-map t f) h

  -- what an operation becomes does not depend on the other's letters
  pub transform-rename : (g : A → B) (a b : Operation A) → transform (rename f a) (rename g b) ≡ rename f (transform a b)
  transform-rename g (Noop i) b = refl
  transform-rename g (Insert i p x) (Noop j) = refl
  transform-rename g (Insert i p x) (Insert j q y) = cond-rename (ltb q p || (eqb q p && ltb j i)) (Insert i (p + 1) x) (Insert i p x)
  transform-rename g (Insert i p x) (Delete j q) = cond-rename (ltb q p) (Insert i (p - 1) x) (Insert i p x)
  transform-rename g (Delete i p) (Noop j) = refl
  transform-rename g (Delete i p) (Insert j q y) = cond-rename (leb q p) (Delete i (p + 1)) (Delete i p)
  transform-rename g (Delete i p) (Delete j q) = ap (cond (ltb q p) (Delete i (p - 1))) (cond-rename (eqb q p) (Noop i) (Delete i p))
      ∙ cond-rename (ltb q p) (Delete i (p - 1)) (cond (eqb q p) (Noop i) (Delete i p))

  puts-rename : (a : Operation A) → puts (rename f a) ≡ map f (puts a)
  puts-rename (Noop i) = refl
  puts-rename (Insert i p x) = refl
  puts-rename (Delete i p) = refl

  strikes-rename : (a : Operation A) (t : List A) → strikes (rename f a) (map f t) ≡ map f (strikes a t)
  strikes-rename (Noop i) t = refl
  strikes-rename (Insert i p x) t = refl
  strikes-rename (Delete i p) t = map-struck p t

  pub renames : Renames (singles A) (singles B) f (rename f) (map f)
  renames = record {
    letters = λ t. refl;
    empty = refl;
    site = site-rename;
    apply = apply-rename;
    fits = fits-rename;
    fits_back = fits_renamed;
    late = transform-rename f;
    early = transform-rename f;
    late_through = through-rename;
    early_through = through-rename;
    puts = puts-rename;
    strikes = strikes-rename;
  }
    where
      through-rename : (a : Operation A) (bs : List (Operation A)) → through transform transform (rename f a) (map (rename f) bs) ≡ map_passed (rename f) (through transform transform a bs)
      through-rename = map-through (rename f) transform transform transform transform (transform-rename f) (transform-rename f)
