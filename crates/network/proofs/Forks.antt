-- Two copies of one history, each with operations of its own on top: letters that both have stand in one order.
use Rattle.std.proofs.Common.{◌≡◌, ℕ, zero, suc, ◌≤◌, List, [], ◌∷◌, ◌++◌, take, drop, ◌≢◌, sym, refl, ap, ◌∙◌, subst, ⊎_elim, take-append-drop, append_assoc, length, ◌<◌, length-take, length-take-le, le_trans, arith}
use Rattle.std.proofs.lemmas.List.{drop-append-le, drop_all}
use Rattle.std.proofs.lemmas.Bool.{cases_lt}
use mathlib.Core.List.Memᴰ
use Rattle.operation.specs.Letters.{◌∈◌, Once, Apart, Before}
use Rattle.operation.specs.Transform.{through}
use Rattle.operation.specs.Laws.{Kind, Laws, apply_all}
use Rattle.network.specs.Runs.{Row, ops, count_of}
use Rattle.network.specs.OneRecord.{taken_of}
use Rattle.network.proofs.Invariants.{puts_all, put_in, replay, Fitting, Mine, Stack, Match, end, own, other, Heads, over, Copy}
use Rattle.network.proofs.Letters.{mem_left, mem_right, mem_parts, mem_of, once_left, once_right, once_apart, before_first, before_second, before_trans, before_self, apart_sym, put_in_by, puts_all_append, apply_all_append, replay_append, put_in_append, puts_one, puts_over}
use Rattle.network.proofs.Grid.{taken_own, taken_other}
use Rattle.network.proofs.Lists.{take_on}
use Rattle.network.proofs.Stacks.{Along, along_fits, along_site, along_apart, along_own, along_other, copy_match, copy_along, copy_fresh, over_text, stack_known, stack_clean}

module _ {A : Type 0} (k : Kind A) (l : Laws k) where
  order_back_all : (x y : A) (os : List k.Op) (t : k.Text) → (x ∈ puts_all k os → ⊥) → (y ∈ puts_all k os → ⊥) →
      Before x y (k.letters (apply_all k os t)) → Before x y (k.letters t)
  unfolding puts_all apply_all
  order_back_all x y [] t n m b = b
  order_back_all x y (o ∷ os) t n m b = l.order_back o t x y (λ h. n (mem_left (puts_all k os) h)) (λ h. m (mem_left (puts_all k os) h))
      (order_back_all x y os (k.apply o t) (λ h. n (mem_right (k.puts o) h)) (λ h. m (mem_right (k.puts o) h)) b)

  -- two ways from one text: letters that stand in both, and that neither puts in, stand in one order
  pub fork_order : (x y : A) (t : k.Text) (os ps : List k.Op) → Once (k.letters t) →
      ((z : A) → z ∈ k.letters (apply_all k os t) → z ∈ k.letters (apply_all k ps t) → (z ∈ puts_all k os → ⊥) × (z ∈ puts_all k ps → ⊥)) →
      Before x y (k.letters (apply_all k os t)) → Before y x (k.letters (apply_all k ps t)) → ⊥
  fork_order x y t os ps o f b c =
      let g = f x (before_first b) (before_second c) in
      let h = f y (before_second b) (before_first c) in
      before_self o (before_trans o (order_back_all x y os t g.0 h.0 b) (order_back_all y x ps t h.1 g.1 c))

  -- the first of what is pending, and the rest
  over_first : (n : ℕ) (e : k.Op) (p : List k.Op) → (over k e (take n p)).others ≡ take n (over k e p).others
  unfolding through
  over_first zero e p = refl
  over_first (suc n) e [] = refl
  over_first (suc n) e (o ∷ p) = ap (◌∷◌ (k.late o e)) (over_first n (k.early e o) p)

  puts_rest : (n : ℕ) (e : k.Op) (p : List k.Op) → puts_all k (drop n (over k e p).others) ≡ puts_all k (drop n p)
  unfolding through
  puts_rest zero e p = puts_over k l e p
  puts_rest (suc n) e [] = refl
  puts_rest (suc n) e (o ∷ p) = puts_rest n (k.early e o) p

  puts_split : (n : ℕ) (p : List k.Op) → puts_all k p ≡ puts_all k (take n p) ++ puts_all k (drop n p)
  puts_split n p = ap (puts_all k) (sym (take-append-drop n p)) ∙ puts_all_append k (take n p) (drop n p)

  mine_first : (i n : ℕ) (p : List k.Op) (t : k.Text) → Mine k i p t → Mine k i (take n p) t
  unfolding Mine
  mine_first i zero p t m = tt
  mine_first i (suc n) [] t m = tt
  mine_first i (suc n) (o ∷ p) t m = (m.0, m.1, mine_first i n p (k.apply o t) m.2)

  stack_first : (i n : ℕ) (known : List A) (p : List k.Op) (t : k.Text) → Stack k i known t p → Stack k i known t (take n p)
  stack_first i n known p t s = record {
    mine = mine_first i n p t s.mine;
    once = once_left (known ++ puts_all k (take n p)) (puts_all k (drop n p))
        (subst Once (ap (◌++◌ known) (puts_split n p) ∙ sym (append_assoc known (puts_all k (take n p)) (puts_all k (drop n p)))) s.once);
    from = s.from;
    clean = s.clean;
  }

  -- what is pending, and entries: the first n of what is pending are among the entries; `way` is the others, past those
  record Fork (n : ℕ) (p : List k.Op) (es : List (Row k.Op)) (t : k.Text) : Type 0 where
    way : List k.Op
    comes : apply_all k way (apply_all k (take n p) t) ≡ apply_all k (ops es) t
    inside : (x : A) → x ∈ puts_all k way → x ∈ put_in k es
    apart_rest : Apart (puts_all k (drop n p)) (put_in k es)
    apart_first : Apart (puts_all k way) (puts_all k (take n p))

  module _ (c i : ℕ) (typed : List A) where
    -- the first entry is the first that is pending
    fork_own : (known : List A) (p : List k.Op) (e : Row k.Op) (es : List (Row k.Op)) (t : k.Text) → Along k i c typed (e.op ∷ p) (e ∷ es) known t →
        Fork (taken_of c es) p es (k.apply e.op t) → Fork (suc (taken_of c es)) (e.op ∷ p) (e ∷ es) t
    unfolding puts_all apply_all
    fork_own known p e es t m f = record {
      way = f.way;
      comes = f.comes;
      inside = λ x h. mem_right (k.puts e.op) (f.inside x h);
      apart_rest = λ x h g. ⊎_elim
          (λ a. once_apart (k.puts e.op) (puts_all k p) (once_right known _ m.stack.once) x a (mem_of (sym (puts_split (taken_of c es) p)) (mem_right _ h)))
          (f.apart_rest x h) (mem_parts (k.puts e.op) g);
      apart_first = λ x h g. ⊎_elim (λ a. once_apart (k.puts e.op) (put_in k es) (once_right known _ m.once) x a (f.inside x h)) (f.apart_first x h)
          (mem_parts (k.puts e.op) g);
    }

    -- an entry of the connection's own that was not yet pending
    fork_none : (n : ℕ) (es : List (Row k.Op)) (t : k.Text) → Fork (suc n) [] es t
    unfolding puts_all apply_all
    fork_none n es t = record { way = ops es; comes = refl; inside = λ x h. h; apart_rest = λ x h g. Memᴰ.not-nil h; apart_first = λ x h g. Memᴰ.not-nil g }

    -- an entry of somebody else
    module _ (known : List A) (p : List k.Op) (e : Row k.Op) (es : List (Row k.Op)) (t : k.Text) (m : Along k i c typed p (e ∷ es) known t) (h : e.by ≢ c) where
      fork_other : (n : ℕ) → Fork n (over k e.op p).others es (k.apply e.op t) → Fork n p (e ∷ es) t
      unfolding puts_all apply_all
      fork_other n f =
          let puts : puts_all k (take n (over k e.op p).others) ≡ puts_all k (take n p) = ap (puts_all k) (sym (over_first n e.op p)) ∙ puts_over k l e.op (take n p) in
          let passes : k.apply (over k e.op (take n p)).one (apply_all k (take n p) t) ≡ apply_all k (take n (over k e.op p).others) (k.apply e.op t) =
          over_text k l i known t e.op (take n p) (stack_first i n known p t m.stack) (along_fits k l i m) (along_site k l i m h) ∙ ap
          (λ os. apply_all k os (k.apply e.op t)) (over_first n e.op p) in
          record {
            way = (over k e.op (take n p)).one ∷ f.way;
            comes = ap (apply_all k f.way) passes ∙ f.comes;
            inside = λ x g. ⊎_elim (λ a. mem_left (put_in k es) (mem_of (puts_one k l e.op (take n p)) a)) (λ a. mem_right (k.puts e.op) (f.inside x a)) (mem_parts _ g);
            apart_rest = λ x g q. ⊎_elim (along_apart k l i m h x (mem_of (sym (puts_split n p)) (mem_right _ g)))
                (f.apart_rest x (mem_of (sym (puts_rest n e.op p)) g)) (mem_parts (k.puts e.op) q);
            apart_first = λ x g q. ⊎_elim (λ a. along_apart k l i m h x (mem_of (sym (puts_split n p)) (mem_left _ q)) (mem_of (puts_one k l e.op (take n p)) a))
                (λ a. f.apart_first x a (mem_of (sym puts) q)) (mem_parts _ g);
          }

    fork : {p : List k.Op} {es : List (Row k.Op)} → Match k c p es → (known : List A) (t : k.Text) → Along k i c typed p es known t → Fork (taken_of c es) p es t
    unfolding count_of puts_all apply_all
    fork (end {p}) known t m = record { way = []; comes = refl; inside = λ x h. h; apart_rest = λ x h g. Memᴰ.not-nil g; apart_first = λ x h g. Memᴰ.not-nil h }
    fork (own {p} {e} {es} b g r) known t m = rw (taken_own c e es b) (more p g m (fork r _ _ (along_own k l i m g)))
      where
        more : (p : List k.Op) → Heads k p e.op → Along k i c typed p (e ∷ es) known t → Fork (taken_of c es) (drop 1 p) es (k.apply e.op t) →
            Fork (suc (taken_of c es)) p (e ∷ es) t
        more [] g m f = fork_none (taken_of c es) (e ∷ es) t
        more (o ∷ p) g m f = subst (λ z. Fork (suc (taken_of c es)) (z ∷ p) (e ∷ es) t) (sym g)
            (fork_own known p e es t (subst (λ z. Along k i c typed (z ∷ p) (e ∷ es) known t) g m) f)
    fork (other {p} {e} {es} b r) known t m = rw (taken_other c e es b) (fork_other known p e es t m b (taken_of c es) (fork r _ _ (along_other k l i m b)))

    -- of two copies the one that has seen less goes on to the same history
    half : (front mid more : List (Row k.Op)) (p : List k.Op) → Match k c p mid → Along k i c typed p mid (put_in k front) (replay k front) → Apart typed (put_in k more) →
        (j : ℕ) (q : List k.Op) → Stack k j (put_in k ((front ++ mid) ++ more)) (replay k ((front ++ mid) ++ more)) q → Apart typed (puts_all k q) →
        (x y : A) → Before x y (k.letters (apply_all k p (replay k front))) → Before y x (k.letters (apply_all k q (replay k ((front ++ mid) ++ more)))) → ⊥
    half front mid more p r m r_apart j q s q_apart x y b d = fork_order x y base (drop n p) (f.way ++ (ops more ++ q))
        (stack_clean k l i (put_in k front) (replay k front) (take n p) (stack_first i n (put_in k front) p (replay k front) m.stack)) far
        (subst (λ t. Before x y (k.letters t)) first b) (subst (λ t. Before y x (k.letters t)) second d)
      where
        n : ℕ
        n = taken_of c mid

        f : Fork (taken_of c mid) p mid (replay k front)
        f = fork r (put_in k front) (replay k front) m

        base : k.Text
        base = apply_all k (take n p) (replay k front)

        first : apply_all k p (replay k front) ≡ apply_all k (drop n p) base
        first = ap (λ os. apply_all k os (replay k front)) (sym (take-append-drop n p)) ∙ apply_all_append k (take n p) (drop n p) (replay k front)

        second : apply_all k q (replay k ((front ++ mid) ++ more)) ≡ apply_all k (f.way ++ (ops more ++ q)) base
        second = ap (apply_all k q) (replay_append k (front ++ mid) more ∙ ap (apply_all k (ops more)) (replay_append k front mid ∙ sym f.comes))
            ∙ sym (apply_all_append k f.way (ops more ++ q) base ∙ apply_all_append k (ops more) q (apply_all k f.way base))

        known : put_in k ((front ++ mid) ++ more) ≡ (put_in k front ++ put_in k mid) ++ put_in k more
        known = put_in_append k (front ++ mid) more ∙ ap (λ xs. xs ++ put_in k more) (put_in_append k front mid)

        once : Once (((put_in k front ++ put_in k mid) ++ put_in k more) ++ puts_all k q)
        once = subst (λ xs. Once (xs ++ puts_all k q)) known s.once

        -- letters of the one's front are none of those that come later
        front_mid : Apart (put_in k front) (put_in k mid)
        front_mid = once_apart _ _ m.once

        front_more : Apart (put_in k front) (put_in k more)
        front_more z a g = once_apart _ _ (once_left _ (puts_all k q) once) z (mem_left (put_in k mid) a) g

        front_q : Apart (put_in k front) (puts_all k q)
        front_q z a g = once_apart _ _ once z (mem_left (put_in k more) (mem_left (put_in k mid) a)) g

        front_p : Apart (put_in k front) (puts_all k p)
        front_p = once_apart _ _ m.stack.once

        rest_of : (z : A) → z ∈ puts_all k (drop n p) → z ∈ puts_all k p
        rest_of z a = mem_of (sym (puts_split n p)) (mem_right _ a)

        -- what the one still has pending is not in the other's text
        rest_far : (z : A) → z ∈ puts_all k (drop n p) → z ∈ ((put_in k front ++ put_in k mid) ++ put_in k more) ++ puts_all k q → ⊥
        rest_far z a g = ⊎_elim
            (λ g. ⊎_elim (λ g. ⊎_elim (λ g. front_p z g (rest_of z a)) (f.apart_rest z a) (mem_parts (put_in k front) g)) (r_apart z (m.mine z (rest_of z a)))
            (mem_parts _ g))
            (q_apart z (m.mine z (rest_of z a))) (mem_parts _ g)

        -- what the other has and the one has not is not in the one's text
        way_far : (z : A) → z ∈ puts_all k (f.way ++ (ops more ++ q)) → z ∈ put_in k front ++ puts_all k p → ⊥
        way_far z g a = ⊎_elim
            (λ w. ⊎_elim (λ a. front_mid z a (f.inside z w))
            (λ a. ⊎_elim (f.apart_first z w) (λ a. f.apart_rest z a (f.inside z w)) (mem_parts _ (mem_of (puts_split n p) a))) (mem_parts (put_in k front) a))
            (λ g. ⊎_elim (λ g. ⊎_elim (λ a. front_more z a g) (λ a. r_apart z (m.mine z a) g) (mem_parts (put_in k front) a))
            (λ g. ⊎_elim (λ a. front_q z a g) (λ a. q_apart z (m.mine z a) g) (mem_parts (put_in k front) a)) (mem_parts (put_in k more) g))
            (mem_parts (puts_all k f.way) (mem_of (puts_all_append k f.way (ops more ++ q) ∙ ap (◌++◌ (puts_all k f.way)) (puts_all_append k (ops more) q)) g))

        far : (z : A) → z ∈ k.letters (apply_all k (drop n p) base) → z ∈ k.letters (apply_all k (f.way ++ (ops more ++ q)) base) →
            (z ∈ puts_all k (drop n p) → ⊥) × (z ∈ puts_all k (f.way ++ (ops more ++ q)) → ⊥)
        far z a g = (
          (λ h. rest_far z h (mem_of (ap (λ xs. xs ++ puts_all k q) known) (stack_known k l j _ _ q s (mem_of (sym (ap k.letters second)) g)))),
          (λ h. way_far z h (stack_known k l i _ _ p m.stack (mem_of (sym (ap k.letters first)) a))),
        )

  -- A TEXT BY THE HISTORY: it is a copy, and what was typed in its connection is in no entry of others, and in none that the connection is not sent
  pub record View (rows : List (Row k.Op)) (typed : List A) (t : k.Text) : Type 0 where
    pub connection : ℕ
    pub site : ℕ
    pub horizon : ℕ
    pub revision : ℕ
    pub pending : List k.Op
    pub copy : Copy k connection site rows horizon typed revision pending t
    pub others : (e : Row k.Op) → e ∈ rows → e.by ≢ connection → Apart typed (k.puts e.op)
    pub behind : (e : Row k.Op) → e ∈ drop horizon rows → Apart typed (k.puts e.op)

  module _ (rows : List (Row k.Op)) (once : Once (put_in k rows)) where
    -- the text after the first entries is one too, of whatever connection
    pub view_after : (s : ℕ) → s ≤ length rows → (t : k.Text) → t ≡ replay k (take s rows) → View rows [] t
    view_after s h t e = record {
      connection = 0;
      site = 0;
      horizon = s;
      revision = s;
      pending = [];
      copy = copy_fresh k l 0 0 rows once s h t e;
      others = λ f m n x g. absurd (Memᴰ.not-nil g);
      behind = λ f m x g. absurd (Memᴰ.not-nil g);
    }

    module _ (fits : Fitting k (ops rows) k.empty) where
      -- of two the one that has seen less: u is how far both go that it may still see
      module _ (typed typed′ : List A) (t t′ : k.Text) (a : View rows typed t) (b : View rows typed′ t′) (apart : Apart typed typed′) where
        half_to : (u : ℕ) → a.revision ≤ u → u ≤ a.horizon → u ≤ b.revision → ((e : Row k.Op) → e ∈ drop u (take b.revision rows) → Apart typed (k.puts e.op)) →
            (x y : A) → Before x y (k.letters t) → Before y x (k.letters t′) → ⊥
        half_to u h g f behind x y o r = half a.connection a.site typed (take a.revision rows) mid more a.pending (copy_match k l a.copy fits once a.others u h g)
            (copy_along k l a.copy fits once a.others u h g) (λ z m n. let e = put_in_by k more n in behind e.0 e.1 z m e.2) b.site b.pending
            (subst (λ es. Stack k b.site (put_in k es) (replay k es) b.pending) goes b.copy.stack) (λ z m n. apart z m (b.copy.mine z n)) x y
            (subst (λ t. Before x y (k.letters t)) a.copy.text o)
            (subst (λ t. Before y x (k.letters t)) (b.copy.text ∙ ap (λ es. apply_all k b.pending (replay k es)) goes) r)
          where
            mid : List (Row k.Op)
            mid = drop a.revision (take u rows)

            more : List (Row k.Op)
            more = drop u (take b.revision rows)

            goes : take b.revision rows ≡ (take a.revision rows ++ mid) ++ more
            goes = take_on u b.revision rows f ∙ ap (λ es. es ++ more) (take_on a.revision u rows h)

        ordered : a.revision ≤ b.revision → (x y : A) → Before x y (k.letters t) → Before y x (k.letters t′) → ⊥
        ordered h = ⊎_elim
            (λ (g : b.revision < a.horizon). half_to b.revision h (omega arith) (omega arith)
            (λ e m. absurd (Memᴰ.not-nil (mem_of (drop_all b.revision (take b.revision rows) (omega (arith, length-take b.revision rows))) m))))
            (λ g. half_to a.horizon a.copy.seen (omega arith) g
            (λ e m. a.behind e (mem_of (sym (ap (drop a.horizon) (sym (take-append-drop b.revision rows)) ∙ drop-append-le a.horizon (take b.revision rows)
            (drop b.revision rows)
            (omega (arith, b.copy.seen, b.copy.within, length-take-le b.revision rows (le_trans b.copy.seen b.copy.within))))) (mem_left _ m))))
            (cases_lt b.revision a.horizon)

      pub copies : (typed typed′ : List A) (t t′ : k.Text) → View rows typed t → View rows typed′ t′ → Apart typed typed′ →
          (x y : A) → Before x y (k.letters t) → Before y x (k.letters t′) → ⊥
      copies typed typed′ t t′ a b n x y o r = ⊎_elim
          (λ (h : a.revision < b.revision). ordered typed typed′ t t′ a b n (omega arith) x y o r)
          (λ h. ordered typed′ typed t′ t b a (apart_sym typed typed′ n) h y x r o) (cases_lt a.revision b.revision)
