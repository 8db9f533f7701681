-- The words of a line, taken off one by one.
use Rattle.std.proofs.Common.{◌≡◌, ⊎_elim, ℕ, zero, suc, ◌<◌, ◌≤◌, Bool, true, false, not, ◌==◌, List, [], ◌∷◌, length, filter, get_or, take, drop, sym, refl, ap, ◌∙◌, add-zero, add-one, drop-cons, arith}
use Rattle.std.specs.Bool.{beq}
use Rattle.std.specs.List.{slice_split, prefix_len, position_or_len}
use Rattle.std.proofs.lemmas.List.{drop_all, take_all, length-take, length-drop, get_or-drop}
use Rattle.std.proofs.lemmas.List.Splits.{slice_split-cons_yes, slice_split_none, slice_split_first}
use Rattle.std.proofs.lemmas.List.Sums.{prefix_len-le-length, prefix_len_passes, prefix_len_stops, position_or_len_is}
use Rattle.std.proofs.lemmas.Bool.{cond-true, ne_eqb, cases_lt}
use Rattle.script.specs.Words.{is_blank, words_of}

-- how many bytes at the front are blank, or at `false` how many are not
abbrev pub front : Bool → List ℕ → ℕ
front v = prefix_len (λ b. beq (is_blank b) v)

-- what it means that two are alike, and that they are not
same : (x v : Bool) → beq x v ≡ true → x ≡ v
same true true e = refl
same true false e = sym e
same false true e = e
same false false e = refl

other : (x v : Bool) → beq x v ≡ false → x ≡ not v
other true true e = e
other true false e = refl
other false true e = refl
other false false e = sym e

-- a blank in front makes no difference
words_of-blank : (b : ℕ) (bs : List ℕ) → is_blank b ≡ true → words_of (b ∷ bs) ≡ words_of bs
unfolding words_of
words_of-blank b bs e = ap (filter (λ w. not (length w == 0))) (slice_split-cons_yes is_blank b bs e)

-- nor do many
words_of-drop : (l : List ℕ) (i : ℕ) → i ≤ length l → ((k : ℕ) → k < i → is_blank (get_or l k 0) ≡ true) → words_of l ≡ words_of (drop i l)
words_of-drop l zero h f = refl
words_of-drop l (suc i) h f =
    words_of-drop l i (omega arith) (λ k e. f k (omega arith)) ∙ ap words_of (drop-cons l i 0 (omega arith)) ∙ words_of-blank (get_or l i 0) (drop (suc i) l) (f i (omega arith))

-- a part that is not empty is a word
word_kept : (w : List ℕ) (parts : List (List ℕ)) → 0 < length w → filter (λ v. not (length v == 0)) (w ∷ parts) ≡ w ∷ filter (λ v. not (length v == 0)) parts
word_kept w parts h = cond-true (not (length w == 0)) _ _ (ap not (ne_eqb (length w) 0 (λ e. omega arith)))

-- what stands behind the blanks in front has the same words
words_of-front : (l : List ℕ) → words_of l ≡ words_of (drop (front true l) l)
words_of-front l = words_of-drop l (front true l) (prefix_len-le-length _ l) (λ k h. same _ true (prefix_len_passes _ l k 0 h))

-- where a word stands in front, it ends at the first blank, or with the line
words_of-word : (l : List ℕ) → 0 < front false l → words_of l ≡ take (front false l) l ∷ words_of (drop (front false l) l)
unfolding words_of
words_of-word l h = ⊎_elim by_blank by_end (cases_lt n (length l))
  where
    n : ℕ
    n = front false l

    within : (k : ℕ) (d : ℕ) → k < n → is_blank (get_or l k d) ≡ false
    within k d lt = same _ false (prefix_len_passes _ l k d lt)

    by_blank : n < length l → words_of l ≡ take n l ∷ words_of (drop n l)
    by_blank lt =
        let b : is_blank (get_or l n 0) ≡ true = other _ false (prefix_len_stops _ l 0 lt) in
        let at : position_or_len is_blank l ≡ n = position_or_len_is is_blank l n 0 (omega arith) (λ k. within k 0) (λ _. b) in
        let s = rw (at, add-one) at (slice_split_first is_blank l 0 (omega arith)) in
        ap (filter (λ w. not (length w == 0))) s ∙ word_kept (take n l) (slice_split is_blank (drop (suc n) l)) (omega (arith, length-take n l))
        ∙ ap (◌∷◌ (take n l)) (sym (ap words_of (drop-cons l n 0 lt) ∙ words_of-blank (get_or l n 0) (drop (suc n) l) b))

    by_end : length l ≤ n → words_of l ≡ take n l ∷ words_of (drop n l)
    by_end le =
        ap (filter (λ w. not (length w == 0))) (slice_split_none is_blank l (λ k d lt. within k d (omega arith))) ∙ word_kept l [] (omega (arith, prefix_len-le-length (λ b. beq (is_blank b) false) l))
        ∙ (let t = take_all n l le in let d = drop_all n l le in rw (t, d))

-- what two steps take off a line: the blanks in front, and from what is left of it what stands before the next blank
module _ (l m w r : List ℕ) (left : m ≡ drop (front true l) l) (word : w ≡ take (front false m) m) (rest : r ≡ drop (front false m) m) where
  -- where that is nothing, neither the line nor what is left of it has a word
  pub words_of-blanks : length w ≡ 0 → (words_of l ≡ []) × (words_of r ≡ [])
  unfolding words_of
  words_of-blanks h =
      (words_of-front l ∙ ap words_of (sym left) ∙ ap words_of (drop_all 0 m (omega (arith, empty))), ap words_of (rest ∙ drop_all (front false m) m (omega (arith, empty))))
    where
      none : front false m ≡ 0
      none = omega (arith, h, ap length word, prefix_len-le-length (λ b. beq (is_blank b) false) m, length-take (front false m) m)

      blank : 0 < length m → is_blank (get_or m 0 0) ≡ true
      blank lt = ap (λ k. is_blank (get_or m k 0)) (sym none) ∙ other _ false (prefix_len_stops (λ b. beq (is_blank b) false) m 0 (omega (arith, none)))

      no_blank : 0 < length m → is_blank (get_or m 0 0) ≡ false
      no_blank lt = rw (left, get_or-drop, add-zero) (other _ true (prefix_len_stops (λ b. beq (is_blank b) true) l 0 (omega (arith, lt, ap length left, length-drop (front true l) l))))

      empty : length m ≡ 0
      empty = ⊎_elim (λ lt. let a = blank lt in let b = no_blank lt in absurd (cc)) (λ le. omega arith) (cases_lt 0 (length m))

  -- else it is the first word
  pub words_of-step : 0 < length w → words_of l ≡ w ∷ words_of r
  words_of-step h = words_of-front l ∙ ap words_of (sym left) ∙ words_of-word m (omega (arith, h, ap length word, length-take (front false m) m)) ∙ rw (word, rest) refl
