-- Letters in lists that are joined: membership, at most once, none in common; two letters in an order; and what operations one after another put in and leave.
use Rattle.std.proofs.Common.{◌≡◌, ℕ, List, [], ◌∷◌, ◌++◌, take, drop, sym, refl, ap, ◌∙◌, ap₂, subst, ⊎_elim}
use Rattle.std.proofs.lemmas.List.{append_assoc, append-nil, map-append, take-append-drop}
use mathlib.Core.List.Memᴰ
pub use mathlib.Core.List.Memᴰ.{append_left as mem_left, append_right as mem_right, append_cases as mem_parts}
use Rattle.operation.specs.Letters.{◌∈◌, Once, Apart, Before, here, there}
use Rattle.operation.specs.Transform.{through}
use Rattle.operation.specs.Laws.{Kind, Laws, apply_all}
use Rattle.network.specs.Runs.{Row, ops, Deed}
use Rattle.network.proofs.Invariants.{puts_all, put_in, typed_in, replay, Fitting, over}

module _ {A : Type 0} where
  pub mem_of : {x : A} {xs ys : List A} → xs ≡ ys → x ∈ xs → x ∈ ys
  mem_of {x} e m = subst (λ zs. x ∈ zs) e m

  pub apart_sym : (xs ys : List A) → Apart xs ys → Apart ys xs
  apart_sym xs ys h x a b = h x b a

  pub apart_join : (xs ys zs : List A) → Apart xs zs → Apart ys zs → Apart (xs ++ ys) zs
  apart_join xs ys zs f g x m n = ⊎_elim (λ a. f x a n) (λ b. g x b n) (mem_parts xs m)

  pub once_join : (xs ys : List A) → Once xs → Once ys → Apart xs ys → Once (xs ++ ys)
  unfolding Once
  once_join [] ys a b h = b
  once_join (x ∷ xs) ys a b h = ((λ m. ⊎_elim a.0 (λ n. h x (Memᴰ.head refl) n) (mem_parts xs m)), once_join xs ys a.1 b (λ z m n. h z (Memᴰ.tail m) n))

  pub once_left : (xs ys : List A) → Once (xs ++ ys) → Once xs
  unfolding Once
  once_left [] ys o = tt
  once_left (x ∷ xs) ys o = ((λ m. o.0 (mem_left ys m)), once_left xs ys o.1)

  pub once_right : (xs ys : List A) → Once (xs ++ ys) → Once ys
  unfolding Once
  once_right [] ys o = o
  once_right (x ∷ xs) ys o = once_right xs ys o.1

  pub once_apart : (xs ys : List A) → Once (xs ++ ys) → Apart xs ys
  unfolding Once
  once_apart [] ys o z m n = Memᴰ.not-nil m
  once_apart (x ∷ xs) ys o z m n = ⊎_elim (λ e. o.0 (mem_right xs (Memᴰ.cast (sym e) n))) (λ t. once_apart xs ys o.1 z t n) (Memᴰ.cases_cons m)

  -- the letters of ys between those of xs and zs
  pub once_between : (xs ys zs : List A) → Once (xs ++ zs) → Once (xs ++ ys) → Apart zs ys → Once ((xs ++ ys) ++ zs)
  once_between xs ys zs a b h = once_join (xs ++ ys) zs b (once_right xs zs a) (apart_join xs ys zs (once_apart xs zs a) (apart_sym zs ys h))

  -- ORDER: of two letters both stand there; where each letter stands once, nothing goes in a circle
  pub before_first : {x y : A} {xs : List A} → Before x y xs → x ∈ xs
  before_first (here m) = Memᴰ.head refl
  before_first (there b) = Memᴰ.tail (before_first b)

  pub before_second : {x y : A} {xs : List A} → Before x y xs → y ∈ xs
  before_second (here m) = Memᴰ.tail m
  before_second (there b) = Memᴰ.tail (before_second b)

  pub before_trans : {x y z : A} {xs : List A} → Once xs → Before x y xs → Before y z xs → Before x z xs
  unfolding Once
  before_trans o (here m) (here n) = absurd (o.0 m)
  before_trans o (here m) (there c) = here (before_second c)
  before_trans o (there b) (here n) = absurd (o.0 (before_second b))
  before_trans o (there b) (there c) = there (before_trans o.1 b c)

  pub before_self : {x : A} {xs : List A} → Once xs → Before x x xs → ⊥
  unfolding Once
  before_self o (here m) = o.0 m
  before_self o (there b) = before_self o.1 b

module _ {A : Type 0} (k : Kind A) where
  pub puts_all_append : (xs ys : List k.Op) → puts_all k (xs ++ ys) ≡ puts_all k xs ++ puts_all k ys
  unfolding puts_all
  puts_all_append [] ys = refl
  puts_all_append (o ∷ xs) ys = ap (◌++◌ (k.puts o)) (puts_all_append xs ys) ∙ sym (append_assoc (k.puts o) (puts_all k xs) (puts_all k ys))

  pub puts_all_snoc : (xs : List k.Op) (o : k.Op) → puts_all k (xs ++ o ∷ []) ≡ puts_all k xs ++ k.puts o
  unfolding puts_all
  puts_all_snoc xs o = puts_all_append xs (o ∷ []) ∙ ap (◌++◌ (puts_all k xs)) (append-nil (k.puts o))

  pub apply_all_append : (xs ys : List k.Op) (t : k.Text) → apply_all k (xs ++ ys) t ≡ apply_all k ys (apply_all k xs t)
  unfolding apply_all
  apply_all_append [] ys t = refl
  apply_all_append (o ∷ xs) ys t = apply_all_append xs ys (k.apply o t)

  pub apply_all_snoc : (xs : List k.Op) (o : k.Op) (t : k.Text) → apply_all k (xs ++ o ∷ []) t ≡ k.apply o (apply_all k xs t)
  unfolding apply_all
  apply_all_snoc xs o t = apply_all_append xs (o ∷ []) t

  pub fitting_left : (xs ys : List k.Op) (t : k.Text) → Fitting k (xs ++ ys) t → Fitting k xs t
  unfolding Fitting
  fitting_left [] ys t f = tt
  fitting_left (o ∷ xs) ys t f = (f.0, fitting_left xs ys (k.apply o t) f.1)

  pub fitting_right : (xs ys : List k.Op) (t : k.Text) → Fitting k (xs ++ ys) t → Fitting k ys (apply_all k xs t)
  unfolding Fitting apply_all
  fitting_right [] ys t f = f
  fitting_right (o ∷ xs) ys t f = fitting_right xs ys (k.apply o t) f.1

  pub fitting_append : (xs ys : List k.Op) (t : k.Text) → Fitting k xs t → Fitting k ys (apply_all k xs t) → Fitting k (xs ++ ys) t
  unfolding Fitting apply_all
  fitting_append [] ys t f g = g
  fitting_append (o ∷ xs) ys t f g = (f.0, fitting_append xs ys (k.apply o t) f.1 g)

  -- the letters of one operation are among those of all, and each of those is of one
  pub puts_among : {x : A} {o : k.Op} {os : List k.Op} → o ∈ os → x ∈ k.puts o → x ∈ puts_all k os
  unfolding puts_all
  puts_among {x} {o} (Memᴰ.head {x = y} {xs = ys} e) m = mem_left (puts_all k ys) (mem_of (ap k.puts e) m)
  puts_among {x} {o} (Memᴰ.tail {x = y} {xs = ys} n) m = mem_right (k.puts y) (puts_among n m)

  pub puts_by : {x : A} (os : List k.Op) → x ∈ puts_all k os → (o : k.Op) × (o ∈ os) × (x ∈ k.puts o)
  unfolding puts_all
  puts_by [] m = absurd (Memᴰ.not-nil m)
  puts_by {x} (o ∷ os) m = ⊎_elim {C = (p : k.Op) × (p ∈ o ∷ os) × (x ∈ k.puts p)} (λ a. (o, Memᴰ.head refl, a)) (λ b. let r = puts_by os b in (r.0, Memᴰ.tail r.1, r.2))
      (mem_parts (k.puts o) m)

  -- the same of entries
  pub put_in_append : (rows more : List (Row k.Op)) → put_in k (rows ++ more) ≡ put_in k rows ++ put_in k more
  put_in_append rows more = ap (puts_all k) (map-append (λ (r : Row k.Op). r.op) rows more) ∙ puts_all_append (ops rows) (ops more)

  pub put_in_snoc : (rows : List (Row k.Op)) (e : Row k.Op) → put_in k (rows ++ e ∷ []) ≡ put_in k rows ++ k.puts e.op
  put_in_snoc rows e = ap (puts_all k) (map-append (λ (r : Row k.Op). r.op) rows (e ∷ [])) ∙ puts_all_snoc (ops rows) e.op

  pub replay_append : (rows more : List (Row k.Op)) → replay k (rows ++ more) ≡ apply_all k (ops more) (replay k rows)
  replay_append rows more = ap (λ os. apply_all k os k.empty) (map-append (λ (r : Row k.Op). r.op) rows more) ∙ apply_all_append (ops rows) (ops more) k.empty

  pub replay_snoc : (rows : List (Row k.Op)) (e : Row k.Op) → replay k (rows ++ e ∷ []) ≡ k.apply e.op (replay k rows)
  replay_snoc rows e = ap (λ os. apply_all k os k.empty) (map-append (λ (r : Row k.Op). r.op) rows (e ∷ [])) ∙ apply_all_snoc (ops rows) e.op k.empty

  pub put_in_among : {x : A} {e : Row k.Op} {rows : List (Row k.Op)} → e ∈ rows → x ∈ k.puts e.op → x ∈ put_in k rows
  put_in_among n m = puts_among (Memᴰ.map (λ (r : Row k.Op). r.op) n) m

  pub put_in_by : {x : A} (rows : List (Row k.Op)) → x ∈ put_in k rows → (e : Row k.Op) × (e ∈ rows) × (x ∈ k.puts e.op)
  put_in_by {x} rows m =
      let r = puts_by (ops rows) m in
      let s = Memᴰ.of_map (λ (e : Row k.Op). e.op) rows r.1 in (s.0, s.1, mem_of (sym (ap k.puts s.2)) r.2)

  pub fitting_rows : (rows more : List (Row k.Op)) (t : k.Text) → Fitting k (ops (rows ++ more)) t →
      Fitting k (ops rows) t × Fitting k (ops more) (apply_all k (ops rows) t)
  fitting_rows rows more t f = let g = subst (λ os. Fitting k os t) (map-append (λ (r : Row k.Op). r.op) rows more) f in
      (fitting_left (ops rows) (ops more) t g, fitting_right (ops rows) (ops more) t g)

  -- the same of the first entries
  pub put_in_take : {x : A} (n : ℕ) (rows : List (Row k.Op)) → x ∈ put_in k (take n rows) → x ∈ put_in k rows
  put_in_take n rows m = mem_of (sym (put_in_append (take n rows) (drop n rows)) ∙ ap (put_in k) (take-append-drop n rows)) (mem_left _ m)

  pub once_take : (n : ℕ) (rows : List (Row k.Op)) → Once (put_in k rows) → Once (put_in k (take n rows))
  once_take n rows o = once_left _ _ (subst Once (ap (put_in k) (sym (take-append-drop n rows)) ∙ put_in_append (take n rows) (drop n rows)) o)

  -- and of deeds
  pub typed_append : (ds es : List (Deed k)) → typed_in k (ds ++ es) ≡ typed_in k ds ++ typed_in k es
  typed_append ds es = ap (puts_all k) (map-append (λ (d : Deed k). d.op) ds es) ∙ puts_all_append _ _

  pub typed_snoc : (ds : List (Deed k)) (d : Deed k) → typed_in k (ds ++ d ∷ []) ≡ typed_in k ds ++ k.puts d.op
  typed_snoc ds d = ap (puts_all k) (map-append (λ (d : Deed k). d.op) ds (d ∷ [])) ∙ puts_all_snoc _ d.op

  pub typed_among : {x : A} {d : Deed k} {ds : List (Deed k)} → d ∈ ds → x ∈ k.puts d.op → x ∈ typed_in k ds
  typed_among n m = puts_among (Memᴰ.map (λ (d : Deed k). d.op) n) m

  -- an entry past what is pending, and that past the entry, put in what they put in before, and are of the sites that they were of
  module _ (l : Laws k) where
    pub puts_one : (e : k.Op) (p : List k.Op) → k.puts (over k e p).one ≡ k.puts e
    unfolding through
    puts_one e [] = refl
    puts_one e (o ∷ p) = puts_one (k.early e o) p ∙ l.early_side.puts_stay e o

    pub puts_over : (e : k.Op) (p : List k.Op) → puts_all k (over k e p).others ≡ puts_all k p
    unfolding through puts_all
    puts_over e [] = refl
    puts_over e (o ∷ p) = ap₂ ◌++◌ (l.late_side.puts_stay o e) (puts_over (k.early e o) p)

    pub site_one : (e : k.Op) (p : List k.Op) → k.site (over k e p).one ≡ k.site e
    unfolding through
    site_one e [] = refl
    site_one e (o ∷ p) = site_one (k.early e o) p ∙ l.early_side.site_stays e o
