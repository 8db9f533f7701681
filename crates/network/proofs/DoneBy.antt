-- The deeds behind entries of the history are, of each connection, the first ones, as many as the entries have of it.
use Rattle.std.proofs.Common.{◌≡◌, ℕ, suc, ◌+◌, ◌≤◌, ◌⊎◌, cond, List, [], ◌∷◌, ◌++◌, length, take, drop, ◌==◌, ◌≢◌, sym, refl, ap, ap₂, ◌∙◌, subst, inl, ⊎_elim, arith, take-take, drop-drop, length-append, length-drop, length-take}
use Rattle.std.proofs.lemmas.List.{append_assoc, append-nil, drop-take}
use Rattle.std.proofs.lemmas.Bool.{cond-true, cond-false, eq-eqb, ne_eqb, cases_eq}
use mathlib.Core.List.Memᴰ
use Rattle.operation.specs.Letters.{◌∈◌}
use Rattle.operation.specs.Laws.{Kind}
use Rattle.network.specs.Runs.{Row, Deed, count_of}
use Rattle.network.specs.OneRecord.{taken_of}
use Rattle.network.proofs.Grid.{taken_own, taken_other}
use Rattle.network.proofs.Letters.{mem_left, mem_right, mem_parts, mem_of}
use Rattle.network.proofs.Lists.{mem_drop}
use Rattle.network.proofs.Invariants.{done_by}

-- the first of a list, and those behind it
module _ {X : Type 0} where
  rest_of : (n : ℕ) (xs : List X) → take n (drop 1 xs) ≡ drop 1 (take (suc n) xs)
  rest_of n xs = let e : 1 + n ≡ suc n = omega arith in sym (drop-take 1 n xs) ∙ ap (λ m. drop 1 (take m xs)) e

  among_one : {x : X} (n : ℕ) (xs : List X) → x ∈ take 1 xs → x ∈ take (suc n) xs
  among_one n [] m = m
  among_one n (y ∷ xs) m = mem_left (take n xs) m

  among_rest : {x : X} (n : ℕ) (xs : List X) → x ∈ take n (drop 1 xs) → x ∈ take (suc n) xs
  among_rest n xs m = mem_drop 1 (take (suc n) xs) (mem_of (rest_of n xs) m)

  one_or_rest : {x : X} (n : ℕ) (xs : List X) → x ∈ take (suc n) xs → x ∈ take 1 xs ⊎ x ∈ take n (drop 1 xs)
  one_or_rest n [] m = inl m
  one_or_rest n (y ∷ xs) m = mem_parts (y ∷ []) m

module _ {A : Type 0} (k : Kind A) where
  -- what each connection has done behind the first of the entries
  abbrev pub behind_one : Row k.Op → (ℕ → List (Deed k)) → ℕ → List (Deed k)
  behind_one e f c = cond (e.by == c) (drop 1 (f c)) (f c)

  behind_own : (e : Row k.Op) (f : ℕ → List (Deed k)) (c : ℕ) → e.by ≡ c → behind_one e f c ≡ drop 1 (f c)
  behind_own e f c h = cond-true (e.by == c) _ _ (eq-eqb _ _ h)

  behind_other : (e : Row k.Op) (f : ℕ → List (Deed k)) (c : ℕ) → e.by ≢ c → behind_one e f c ≡ f c
  behind_other e f c h = cond-false (e.by == c) _ _ (ne_eqb _ _ h)

  -- only the first deeds matter
  pub done_same : (rows : List (Row k.Op)) (f g : ℕ → List (Deed k)) → ((c : ℕ) → take (taken_of c rows) (f c) ≡ take (taken_of c rows) (g c)) →
      done_by k f rows ≡ done_by k g rows
  unfolding done_by
  done_same [] f g h = refl
  done_same (e ∷ rows) f g h = ap₂ ◌++◌ one (done_same rows (behind_one e f) (behind_one e g) (λ c. ⊎_elim (own c) (other c) (cases_eq e.by c)))
    where
      more : (c : ℕ) → e.by ≡ c → take (suc (taken_of c rows)) (f c) ≡ take (suc (taken_of c rows)) (g c)
      more c p = subst (λ n. take n (f c) ≡ take n (g c)) (taken_own c e rows p) (h c)

      one : take 1 (f e.by) ≡ take 1 (g e.by)
      one = let n = suc (taken_of e.by rows) in
          let h : 1 ≤ n = omega arith in
          sym (take-take 1 n (f e.by) h) ∙ ap (take 1) (more e.by refl) ∙ take-take 1 n (g e.by) h

      own : (c : ℕ) → e.by ≡ c → take (taken_of c rows) (behind_one e f c) ≡ take (taken_of c rows) (behind_one e g c)
      own c p = let n = taken_of c rows in
          ap (take n) (behind_own e f c p) ∙ rest_of n (f c) ∙ ap (drop 1) (more c p) ∙ sym (rest_of n (g c)) ∙ ap (take n) (sym (behind_own e g c p))

      other : (c : ℕ) → e.by ≢ c → take (taken_of c rows) (behind_one e f c) ≡ take (taken_of c rows) (behind_one e g c)
      other c p = let n = taken_of c rows in
          ap (take n) (behind_other e f c p) ∙ subst (λ m. take m (f c) ≡ take m (g c)) (taken_other c e rows p) (h c) ∙ ap (take n) (sym (behind_other e g c p))

  -- entries behind others
  pub done_append : (xs ys : List (Row k.Op)) (f : ℕ → List (Deed k)) → done_by k f (xs ++ ys) ≡ done_by k f xs ++ done_by k (λ c. drop (taken_of c xs) (f c)) ys
  unfolding done_by count_of
  done_append [] ys f = refl
  done_append (e ∷ xs) ys f = ap (◌++◌ (take 1 (f e.by))) (done_append xs ys (behind_one e f) ∙ ap (◌++◌ (done_by k (behind_one e f) xs))
      (done_same ys (λ c. drop (taken_of c xs) (behind_one e f c)) (λ c. drop (taken_of c (e ∷ xs)) (f c))
      (λ c. ap (take (taken_of c ys)) (⊎_elim (own c) (other c) (cases_eq e.by c)))))
      ∙ sym (append_assoc (take 1 (f e.by)) (done_by k (behind_one e f) xs) (done_by k (λ c. drop (taken_of c (e ∷ xs)) (f c)) ys))
    where
      own : (c : ℕ) → e.by ≡ c → drop (taken_of c xs) (behind_one e f c) ≡ drop (taken_of c (e ∷ xs)) (f c)
      own c p = ap (drop (taken_of c xs)) (behind_own e f c p) ∙ drop-drop (taken_of c xs) 1 (f c) ∙ ap (λ n. drop n (f c)) (omega (arith, taken_own c e xs p))

      other : (c : ℕ) → e.by ≢ c → drop (taken_of c xs) (behind_one e f c) ≡ drop (taken_of c (e ∷ xs)) (f c)
      other c p = ap (drop (taken_of c xs)) (behind_other e f c p) ∙ ap (λ n. drop n (f c)) (sym (taken_other c e xs p))

  pub done_snoc : (rows : List (Row k.Op)) (e : Row k.Op) (f : ℕ → List (Deed k)) → done_by k f (rows ++ e ∷ []) ≡ done_by k f rows ++ take 1
      (drop (taken_of e.by rows) (f e.by))
  unfolding done_by
  done_snoc rows e f = done_append rows (e ∷ []) f ∙ ap (◌++◌ (done_by k f rows)) (append-nil (take 1 (drop (taken_of e.by rows) (f e.by))))

  -- one for each entry, if each connection has done as much
  pub done_short : (rows : List (Row k.Op)) (f : ℕ → List (Deed k)) → length (done_by k f rows) ≤ length rows
  unfolding done_by
  done_short [] f = omega arith
  done_short (e ∷ rows) f = omega (arith, length-append (take 1 (f e.by)) (done_by k (behind_one e f) rows), length-take 1 (f e.by), done_short rows (behind_one e f))

  pub done_enough : (rows : List (Row k.Op)) (f : ℕ → List (Deed k)) → length rows ≤ length (done_by k f rows) → (c : ℕ) → taken_of c rows ≤ length (f c)
  unfolding done_by count_of
  done_enough [] f h c = omega arith
  done_enough (e ∷ rows) f h c =
      let n = length-append (take 1 (f e.by)) (done_by k (behind_one e f) rows) in
      let i : length rows ≤ length (done_by k (behind_one e f) rows) = omega (arith, length-take 1 (f e.by)) in
      let r : taken_of c rows ≤ length (behind_one e f c) = done_enough rows (behind_one e f) i c in
      ⊎_elim
      (λ p. let q : length (f e.by) ≡ length (f c) = ap (λ j. length (f j)) p in
      omega (arith, taken_own c e rows p, ap length (behind_own e f c p), length-drop 1 (f c), length-take 1 (f e.by), done_short rows (behind_one e f)))
      (λ p. omega (arith, taken_other c e rows p, ap length (behind_other e f c p)))
      (cases_eq e.by c)

  -- its members
  pub done_of : {d : Deed k} (rows : List (Row k.Op)) (f : ℕ → List (Deed k)) → d ∈ done_by k f rows → (c : ℕ) × (d ∈ take (taken_of c rows) (f c))
  unfolding done_by
  done_of [] f m = absurd (Memᴰ.not-nil m)
  done_of {d} (e ∷ rows) f m = ⊎_elim
      (λ a. (e.by, subst (λ n. d ∈ take n (f e.by)) (sym (taken_own e.by e rows refl)) (among_one (taken_of e.by rows) (f e.by) a)))
      (λ b. let r = done_of rows (behind_one e f) b in (r.0, ⊎_elim (own r.0 r.1) (other r.0 r.1) (cases_eq e.by r.0)))
      (mem_parts (take 1 (f e.by)) m)
    where
      own : (c : ℕ) → d ∈ take (taken_of c rows) (behind_one e f c) → e.by ≡ c → d ∈ take (taken_of c (e ∷ rows)) (f c)
      own c m p = subst (λ n. d ∈ take n (f c)) (sym (taken_own c e rows p))
          (among_rest (taken_of c rows) (f c) (mem_of (ap (take (taken_of c rows)) (behind_own e f c p)) m))

      other : (c : ℕ) → d ∈ take (taken_of c rows) (behind_one e f c) → e.by ≢ c → d ∈ take (taken_of c (e ∷ rows)) (f c)
      other c m p = subst (λ n. d ∈ take n (f c)) (sym (taken_other c e rows p)) (mem_of (ap (take (taken_of c rows)) (behind_other e f c p)) m)

  pub of_done : {d : Deed k} (rows : List (Row k.Op)) (f : ℕ → List (Deed k)) (c : ℕ) → d ∈ take (taken_of c rows) (f c) → d ∈ done_by k f rows
  unfolding done_by count_of
  of_done [] f c m = m
  of_done {d} (e ∷ rows) f c m = ⊎_elim (own (λ n. of_done rows (behind_one e f) c n)) (other (λ n. of_done rows (behind_one e f) c n)) (cases_eq e.by c)
    where
      own : (d ∈ take (taken_of c rows) (behind_one e f c) → d ∈ done_by k (behind_one e f) rows) → e.by ≡ c → d ∈ done_by k f (e ∷ rows)
      own rest p = ⊎_elim
          (λ a. mem_left (done_by k (behind_one e f) rows) (subst (λ i. d ∈ take 1 (f i)) (sym p) a))
          (λ b. mem_right (take 1 (f e.by)) (rest (mem_of (ap (take (taken_of c rows)) (sym (behind_own e f c p))) b)))
          (one_or_rest (taken_of c rows) (f c) (subst (λ n. d ∈ take n (f c)) (taken_own c e rows p) m))

      other : (d ∈ take (taken_of c rows) (behind_one e f c) → d ∈ done_by k (behind_one e f) rows) → e.by ≢ c → d ∈ done_by k f (e ∷ rows)
      other rest p = mem_right (take 1 (f e.by)) (rest (mem_of (ap (take (taken_of c rows)) (sym (behind_other e f c p)))
          (subst (λ n. d ∈ take n (f c)) (taken_other c e rows p) m)))
