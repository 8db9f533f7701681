-- Parts of lists: what stands in them, a list that begins with another, and the next element.
use Rattle.std.proofs.Common.{◌≡◌, ℕ, zero, suc, ◌+◌, ◌<◌, ◌≤◌, ◌⊎◌, List, [], ◌∷◌, ◌++◌, length, take, drop, get_or, refl, sym, ap, ◌∙◌, subst, arith}
use Rattle.std.proofs.lemmas.List.{append_assoc, append-nil, length-append, length-take, take-append-drop, take-take, take_more, drop_more, get_or-take, get_or_at}
use Rattle.operation.specs.Letters.{◌∈◌}
use Rattle.network.proofs.Letters.{mem_left, mem_right, mem_parts, mem_of}

-- WHAT STANDS in a part
module _ {X : Type 0} where
  pub mem_take : {x : X} (n : ℕ) (xs : List X) → x ∈ take n xs → x ∈ xs
  mem_take n xs m = mem_of (take-append-drop n xs) (mem_left (drop n xs) m)

  pub mem_drop : {x : X} (n : ℕ) (xs : List X) → x ∈ drop n xs → x ∈ xs
  mem_drop n xs m = mem_of (take-append-drop n xs) (mem_right (take n xs) m)

  pub mem_split : {x : X} (n : ℕ) (xs : List X) → x ∈ xs → x ∈ take n xs ⊎ x ∈ drop n xs
  mem_split n xs m = mem_parts (take n xs) (mem_of (sym (take-append-drop n xs)) m)

  -- from a place to a later one
  pub take_on : (m n : ℕ) (xs : List X) → m ≤ n → take n xs ≡ take m xs ++ drop m (take n xs)
  take_on m n xs h = sym (ap (λ ys. ys ++ drop m (take n xs)) (sym (take-take m n xs h)) ∙ take-append-drop m (take n xs))

-- ONE LIST BEGINS WITH ANOTHER: ys with xs
pub record Front {X : Type 0} (xs ys : List X) : Type 0 where
  pub more : List X
  pub whole : ys ≡ xs ++ more

module _ {X : Type 0} where
  pub front_same : (xs : List X) → Front xs xs
  front_same xs = record { more = []; whole = sym (append-nil xs) }

  pub front_more : (xs more : List X) → Front xs (xs ++ more)
  front_more xs more = record { more = more; whole = refl }

  pub front_on : {xs ys zs : List X} → Front xs ys → Front ys zs → Front xs zs
  front_on {xs} f g = record { more = f.more ++ g.more; whole = g.whole ∙ ap (λ l. l ++ g.more) f.whole ∙ append_assoc xs f.more g.more }

  front_cons : (x : X) {xs ys : List X} → Front xs ys → Front (x ∷ xs) (x ∷ ys)
  front_cons x f = record { more = f.more; whole = ap (λ l. x ∷ l) f.whole }

  take_front : (i j : ℕ) (xs more : List X) → i ≤ j → Front (take i xs) (take j (xs ++ more))
  take_front zero j xs more h = front_more [] (take j (xs ++ more))
  take_front (suc i) j [] more h = front_more [] (take j more)
  take_front (suc i) zero (x ∷ xs) more h = absurd (omega arith)
  take_front (suc i) (suc j) (x ∷ xs) more h = front_cons x (take_front i j xs more (omega arith))

  pub front_take : (i j : ℕ) {xs ys : List X} → i ≤ j → Front xs ys → Front (take i xs) (take j ys)
  front_take i j {xs} h f = subst (λ l. Front (take i xs) (take j l)) (sym f.whole) (take_front i j xs f.more h)

  drop_front : (i : ℕ) (xs more : List X) → Front (drop i xs) (drop i (xs ++ more))
  drop_front zero xs more = front_more xs more
  drop_front (suc i) [] more = front_more [] (drop (suc i) more)
  drop_front (suc i) (x ∷ xs) more = drop_front i xs more

  pub front_drop : (i : ℕ) {xs ys : List X} → Front xs ys → Front (drop i xs) (drop i ys)
  front_drop i {xs} f = subst (λ l. Front (drop i xs) (drop i l)) (sym f.whole) (drop_front i xs f.more)

  pub mem_front : {x : X} {xs ys : List X} → Front xs ys → x ∈ xs → x ∈ ys
  mem_front f m = mem_of (sym f.whole) (mem_left f.more m)

  pub length_front : {xs ys : List X} → Front xs ys → length xs ≤ length ys
  length_front {xs} f = omega (arith, ap length f.whole, length-append xs f.more)

-- THE NEXT ELEMENT
module _ {X : Type 0} (xs : List X) (e : X) where
  pub next_at : (before after : List X) (s : ℕ) → xs ≡ before ++ e ∷ after → length before ≡ s → (get_or xs s e ≡ e) × (s < length xs)
  next_at before after s q n = (ap (λ z. get_or z s e) q ∙ get_or_at before e after e s n, omega (arith, ap length q, length-append before (e ∷ after), n))

  pub next_front : (s : ℕ) → get_or xs s e ≡ e → s < length xs → take (s + 1) xs ≡ take s xs ++ e ∷ []
  next_front s g n = take_more xs s e n ∙ ap (λ z. take s xs ++ z ∷ []) g

  pub next_rest : (s : ℕ) → get_or xs s e ≡ e → s < length xs → drop s xs ≡ e ∷ drop (s + 1) xs
  next_rest s g n = drop_more xs s e n ∙ ap (λ z. z ∷ drop (s + 1) xs) g

pub next_of : {X : Type 0} (xs : List X) (e : X) (s h : ℕ) → get_or xs s e ≡ e → s < h → h ≤ length xs → drop s (take h xs) ≡ e ∷ drop (s + 1) (take h xs)
next_of xs e s h g n b = next_rest (take h xs) e s (get_or-take h xs s e n ∙ g) (omega (arith, length-take h xs))
