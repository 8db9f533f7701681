-- Texts that operations leave: whose letters stand there.
-- Operations of one site on top of a text: entries of others go past them, and so a copy of the history goes on along those.
use Rattle.std.proofs.Common.{◌≡◌, ℕ, suc, ◌⊎◌, ◌≤◌, List, [], ◌∷◌, ◌++◌, length, take, drop, ◌≢◌, sym, refl, ap, ◌∙◌, subst, subst₂, inl, inr, ⊎_elim, arith, le_trans}
use Rattle.std.proofs.lemmas.List.{append_assoc, append-nil, take-append-drop, drop-append-le, length-take, length-take-le, drop_all}
use mathlib.Core.List.Memᴰ
use Rattle.operation.specs.Letters.{◌∈◌, Once, Apart}
use Rattle.operation.specs.Transform.{through}
use Rattle.operation.specs.Laws.{Kind, Laws, apply_all, Others, Around}
use Rattle.operation.proofs.Through.{tp1_through}
use Rattle.network.specs.Runs.{Row, ops}
use Rattle.network.proofs.Invariants.{puts_all, put_in, replay, Fitting, Mine, Stack, over, run, Heads, Match, Copy}
use Rattle.network.proofs.Grid.{run_own, run_other}
use Rattle.network.proofs.Letters.{mem_left, mem_right, mem_of, once_left, once_right, once_apart, once_join, once_between, puts_all_snoc, put_in_append, once_take, fitting_rows, replay_append, puts_over}
use Rattle.network.proofs.Lists.{mem_take, mem_drop, take_on}
use Rattle.network.proofs.Matches.{match_front}

-- What is pending in connection c at site i on top of the text t, and entries `es` to come: those of others are of other sites, and have no letters that were typed in c.
-- known: all letters that were ever put into the text below; typed: what was typed in c
pub record Along {A : Type 0} (k : Kind A) (i c : ℕ) (typed : List A) (p : List k.Op) (es : List (Row k.Op)) (known : List A) (t : k.Text) : Type 0 where
  pub stack : Stack k i known t p
  pub fitting : Fitting k (ops es) t
  pub once : Once (known ++ put_in k es)
  pub foreign : (e : Row k.Op) → e ∈ es → e.by ≢ c → k.site e.op ≢ i
  pub apart : (e : Row k.Op) → e ∈ es → e.by ≢ c → Apart typed (k.puts e.op)
  pub mine : (x : A) → x ∈ puts_all k p → x ∈ typed

module _ {A : Type 0} (k : Kind A) (l : Laws k) where
  -- what stands in a text that operations leave stood there before, or one of them put it in
  pub stood_or_put : {x : A} (os : List k.Op) (t : k.Text) → x ∈ k.letters (apply_all k os t) → x ∈ k.letters t ⊎ x ∈ puts_all k os
  unfolding puts_all apply_all
  stood_or_put [] t m = inl m
  stood_or_put {x} (o ∷ os) t m = ⊎_elim
      (λ a. ⊎_elim (λ p. inr (mem_left (puts_all k os) p)) (λ s. inl s) (l.comes_from o t x a))
      (λ b. inr (mem_right (k.puts o) b)) (stood_or_put os (k.apply o t) m)

  pub stays_clean : (os : List k.Op) (t : k.Text) → Once (k.letters t) → Once (puts_all k os) → Apart (puts_all k os) (k.letters t) → Once (k.letters (apply_all k os t))
  unfolding puts_all apply_all
  stays_clean [] t o u h = o
  stays_clean (a ∷ os) t o u h = stays_clean os (k.apply a t)
      (l.stays_once a t o (once_left (k.puts a) (puts_all k os) u) (λ x m n. h x (mem_left (puts_all k os) m) n)) (once_right (k.puts a) (puts_all k os) u)
      (λ x m n. ⊎_elim (λ p. once_apart (k.puts a) (puts_all k os) u x p m) (λ s. h x (mem_right (k.puts a) m) s) (l.comes_from a t x n))

  pub none_at_first : {x : A} → x ∈ k.letters k.empty → ⊥
  none_at_first m = Memᴰ.not-nil (mem_of l.empty_text m)

  -- of the server's text
  pub replay_known : {x : A} (rows : List (Row k.Op)) → x ∈ k.letters (replay k rows) → x ∈ put_in k rows
  replay_known rows m = ⊎_elim (λ s. absurd (none_at_first s)) (λ p. p) (stood_or_put (ops rows) k.empty m)

  pub clean_at_first : Once (k.letters k.empty)
  unfolding Once
  clean_at_first = subst Once (sym l.empty_text) tt

  pub replay_clean : (rows : List (Row k.Op)) → Once (put_in k rows) → Once (k.letters (replay k rows))
  replay_clean rows o = stays_clean (ops rows) k.empty clean_at_first o (λ x m n. none_at_first n)

  module _ (i : ℕ) where
    -- what is pending is of another site than an entry of somebody else
    others_of_mine : (j : ℕ) (p : List k.Op) (t : k.Text) → j ≢ i → Mine k i p t → Others k j p t
    unfolding Mine Others
    others_of_mine j [] t n m = tt
    others_of_mine j (o ∷ p) t n m = ((λ e. n (e ∙ m.0)), m.1, others_of_mine j p (k.apply o t) n m.2)

    past : (e : k.Op) (p : List k.Op) (t : k.Text) → k.Fits e t → k.site e ≢ i → Mine k i p t → Around k k.early k.late e p t
    past e p t f n m = (tp1_through k l).early_through e p t f (others_of_mine (k.site e) p t n m)

    mine_past : (e : k.Op) (p : List k.Op) (t u : k.Text) → Mine k i p t → Others k (k.site e) (over k e p).others u → Mine k i (over k e p).others u
    unfolding Mine Others through
    mine_past e [] t u m o = tt
    mine_past e (a ∷ p) t u m o = (
      l.late_side.site_stays a e ∙ m.0,
      o.1,
      mine_past (k.early e a) p (k.apply a t) (k.apply (k.late a e) u) m.2
          (subst (λ j. Others k j (over k (k.early e a) p).others (k.apply (k.late a e) u)) (sym (l.early_side.site_stays e a)) o.2),
    )

    mine_snoc : (p : List k.Op) (o : k.Op) (t : k.Text) → Mine k i p t → k.site o ≡ i → k.Fits o (apply_all k p t) → Mine k i (p ++ o ∷ []) t
    unfolding Mine apply_all
    mine_snoc [] o t m s f = (s, f, tt)
    mine_snoc (a ∷ p) o t m s f = (m.0, m.1, mine_snoc p o (k.apply a t) m.2 s f)

    -- an operation is done to the text below, and what is pending becomes q
    stack_below : {known : List A} {t : k.Text} {p : List k.Op} → Stack k i known t p → (e : k.Op) (q : List k.Op) → Mine k i q (k.apply e t) →
        Once ((known ++ k.puts e) ++ puts_all k q) → Stack k i (known ++ k.puts e) (k.apply e t) q
    stack_below {known} {t} s e q m u = let o = once_left (known ++ k.puts e) (puts_all k q) u in record {
      mine = m;
      once = u;
      from = λ x m. ⊎_elim (λ a. mem_right known a) (λ b. mem_left (k.puts e) (s.from x b)) (l.comes_from e t x m);
      clean = l.stays_once e t s.clean (once_right known (k.puts e) o) (λ x m b. once_apart known (k.puts e) o x (s.from x b) m);
    }

    -- the first of what is pending
    pub stack_own : (known : List A) (t : k.Text) (o : k.Op) (p : List k.Op) → Stack k i known t (o ∷ p) → Stack k i (known ++ k.puts o) (k.apply o t) p
    unfolding Mine puts_all
    stack_own known t o p s = stack_below s o p s.mine.2 (subst Once (sym (append_assoc known (k.puts o) (puts_all k p))) s.once)

    -- an entry of somebody else
    module _ (known : List A) (t : k.Text) (e : k.Op) (p : List k.Op) (s : Stack k i known t p) (f : k.Fits e t) (n : k.site e ≢ i) where
      pub over_text : k.apply (over k e p).one (apply_all k p t) ≡ apply_all k (over k e p).others (k.apply e t)
      over_text = (past e p t f n s.mine).one_text

      pub over_fits : k.Fits (over k e p).one (apply_all k p t)
      over_fits = (past e p t f n s.mine).one_fits

      pub stack_other : Once (known ++ k.puts e) → Apart (puts_all k p) (k.puts e) → Stack k i (known ++ k.puts e) (k.apply e t) (over k e p).others
      stack_other o h = stack_below s e (over k e p).others (mine_past e p t (k.apply e t) s.mine (past e p t f n s.mine).others_fit)
          (subst (λ xs. Once ((known ++ k.puts e) ++ xs)) (sym (puts_over k l e p)) (once_between known (k.puts e) (puts_all k p) s.once o h))

    module _ (known : List A) (t : k.Text) (p : List k.Op) (s : Stack k i known t p) where
      -- one more is pending
      pub stack_more : (o : k.Op) → k.site o ≡ i → k.Fits o (apply_all k p t) → Once (k.puts o) → Apart (known ++ puts_all k p) (k.puts o) → Stack k i known t (p ++ o ∷ [])
      stack_more o e f u h = record {
        mine = mine_snoc p o t s.mine e f;
        once = subst Once (append_assoc known (puts_all k p) (k.puts o) ∙ ap (◌++◌ known) (sym (puts_all_snoc k p o)))
            (once_join (known ++ puts_all k p) (k.puts o) s.once u h);
        from = s.from;
        clean = s.clean;
      }

      -- what stands in the text on top
      pub stack_known : {x : A} → x ∈ k.letters (apply_all k p t) → x ∈ known ++ puts_all k p
      stack_known {x} m = ⊎_elim (λ a. mem_left (puts_all k p) (s.from x a)) (λ b. mem_right known b) (stood_or_put p t m)

      pub stack_clean : Once (k.letters (apply_all k p t))
      stack_clean = stays_clean p t s.clean (once_right known (puts_all k p) s.once) (λ x m n. once_apart known (puts_all k p) s.once x (s.from x n) m)

    puts_dropped : {x : A} (p : List k.Op) → x ∈ puts_all k (drop 1 p) → x ∈ puts_all k p
    unfolding puts_all
    puts_dropped [] m = m
    puts_dropped (o ∷ p) m = mem_right (k.puts o) m

    -- the first of what is pending, or an entry of the connection that was not pending
    stack_drops : (known : List A) (t : k.Text) (o : k.Op) (p : List k.Op) → Heads k p o → Once (known ++ k.puts o) → Stack k i known t p →
        Stack k i (known ++ k.puts o) (k.apply o t) (drop 1 p)
    unfolding Mine puts_all
    stack_drops known t o [] h u s = stack_below s o [] tt (subst Once (sym (append-nil (known ++ k.puts o))) u)
    stack_drops known t o (f ∷ p) h u s = subst (λ a. Stack k i (known ++ k.puts a) (k.apply a t) p) h (stack_own known t f p s)

    -- ALONG ENTRIES
    module _ {c : ℕ} {typed : List A} {p : List k.Op} {e : Row k.Op} {es : List (Row k.Op)} {known : List A} {t : k.Text} (a : Along k i c typed p (e ∷ es) known t) where
      pub along_fits : k.Fits e.op t
      unfolding Fitting
      along_fits = a.fitting.0

      pub along_once : Once (known ++ k.puts e.op)
      unfolding puts_all
      along_once = once_left _ (put_in k es) (subst Once (sym (append_assoc known (k.puts e.op) (put_in k es))) a.once)

      pub along_apart : e.by ≢ c → Apart (puts_all k p) (k.puts e.op)
      along_apart h x m = a.apart e (Memᴰ.head refl) h x (a.mine x m)

      pub along_site : e.by ≢ c → k.site e.op ≢ i
      along_site h = a.foreign e (Memᴰ.head refl) h

      -- the first has come
      along_next : (q : List k.Op) → Stack k i (known ++ k.puts e.op) (k.apply e.op t) q → ((x : A) → x ∈ puts_all k q → x ∈ puts_all k p) →
          Along k i c typed q es (known ++ k.puts e.op) (k.apply e.op t)
      unfolding Fitting puts_all
      along_next q s h = record {
        stack = s;
        fitting = a.fitting.1;
        once = subst Once (sym (append_assoc known (k.puts e.op) (put_in k es))) a.once;
        foreign = λ f m. a.foreign f (Memᴰ.tail m);
        apart = λ f m. a.apart f (Memᴰ.tail m);
        mine = λ x m. a.mine x (h x m);
      }

      pub along_own : Heads k p e.op → Along k i c typed (drop 1 p) es (known ++ k.puts e.op) (k.apply e.op t)
      along_own h = along_next (drop 1 p) (stack_drops known t e.op p h along_once a.stack) (λ x m. puts_dropped p m)

      pub along_other : e.by ≢ c → Along k i c typed (over k e.op p).others es (known ++ k.puts e.op) (k.apply e.op t)
      along_other h = along_next (over k e.op p).others (stack_other known t e.op p a.stack along_fits (along_site h) along_once (along_apart h))
          (λ x m. mem_of (puts_over k l e.op p) m)

    -- all have come
    along_all : {c : ℕ} {typed : List A} {p : List k.Op} {es : List (Row k.Op)} → Match k c p es → (s : ℕ) (known : List A) (t : k.Text) → Along k i c typed p es known t →
        Along k i c typed (run k c s p es).out [] (known ++ put_in k es) (apply_all k (ops es) t)
    unfolding run puts_all apply_all
    along_all {c} {typed} {p} Match.end s known t a = subst (λ xs. Along k i c typed p [] xs t) (sym (append-nil known)) a
    along_all {c} {typed} (Match.own {p} {e} {es} h hd m) s known t a =
        subst₂ (λ xs r. Along k i c typed r.out [] xs (apply_all k (ops es) (k.apply e.op t))) (append_assoc known (k.puts e.op) (put_in k es))
        (sym (run_own k c s p e es h))
        (along_all m (suc s) (known ++ k.puts e.op) (k.apply e.op t) (along_own a hd))
    along_all {c} {typed} (Match.other {p} {e} {es} h m) s known t a =
        subst₂ (λ xs r. Along k i c typed r.out [] xs (apply_all k (ops es) (k.apply e.op t))) (append_assoc known (k.puts e.op) (put_in k es))
        (sym (run_other k c s p e es h))
        (along_all m (suc s) (known ++ k.puts e.op) (k.apply e.op t) (along_other a h))

-- A COPY and the entries up to u, which it may still see
module _ {A : Type 0} (k : Kind A) (l : Laws k) {c i : ℕ} {rows : List (Row k.Op)} {h : ℕ} {typed : List A} {s : ℕ} {p : List k.Op} {t : k.Text}
    (y : Copy k c i rows h typed s p t) (fitting : Fitting k (ops rows) k.empty) (once : Once (put_in k rows))
    (apart : (e : Row k.Op) → e ∈ rows → e.by ≢ c → Apart typed (k.puts e.op)) (u : ℕ) (from : s ≤ u) (to : u ≤ h) where
  copy_split : take u rows ≡ take s rows ++ drop s (take u rows)
  copy_split = take_on s u rows from

  copy_ahead : drop s (take h rows) ≡ drop s (take u rows) ++ drop u (take h rows)
  copy_ahead = ap (drop s) (take_on u h rows to) ∙ drop-append-le s (take u rows) (drop u (take h rows)) (omega (arith, length-take-le u rows (le_trans to y.within)))

  pub copy_match : Match k c p (drop s (take u rows))
  copy_match = match_front k c (drop s (take u rows)) (drop u (take h rows)) (subst (Match k c p) copy_ahead y.match)

  pub copy_along : Along k i c typed p (drop s (take u rows)) (put_in k (take s rows)) (replay k (take s rows))
  copy_along = record {
    stack = y.stack;
    fitting = (fitting_rows k (take s rows) _ k.empty (subst (λ es. Fitting k (ops es) k.empty) copy_split
        (fitting_rows k (take u rows) (drop u rows) k.empty (subst (λ es. Fitting k (ops es) k.empty) (sym (take-append-drop u rows)) fitting)).0)).1;
    once = subst Once (ap (put_in k) copy_split ∙ put_in_append k (take s rows) _) (once_take k u rows once);
    foreign = λ e m. y.foreign e (mem_of (sym copy_ahead) (mem_left _ m));
    apart = λ e m. apart e (mem_take u rows (mem_drop s (take u rows) m));
    mine = y.mine;
  }

  -- what would be pending
  pub copy_goes : Along k i c typed (run k c s p (drop s (take u rows))).out [] (put_in k (take u rows)) (replay k (take u rows))
  copy_goes = subst₂ (Along k i c typed (run k c s p (drop s (take u rows))).out []) (sym (ap (put_in k) copy_split ∙ put_in_append k (take s rows) _))
      (sym (ap (replay k) copy_split ∙ replay_append k (take s rows) _)) (along_all k l i copy_match s _ _ copy_along)

-- a copy with nothing pending
pub copy_fresh : {A : Type 0} (k : Kind A) (l : Laws k) (c i : ℕ) (rows : List (Row k.Op)) → Once (put_in k rows) → (s : ℕ) → s ≤ length rows → (t : k.Text) →
    t ≡ replay k (take s rows) → Copy k c i rows s [] s [] t
unfolding Mine puts_all apply_all
copy_fresh k l c i rows once s h t e =
    let none : drop s (take s rows) ≡ [] = drop_all s (take s rows) (omega (arith, length-take s rows)) in
    let clean = once_take k s rows once in
    record {
      seen = omega arith;
      within = h;
      text = e;
      stack = record { mine = tt; once = subst Once (sym (append-nil _)) clean; from = λ x. replay_known k l (take s rows); clean = replay_clean k l (take s rows) clean };
      mine = λ x m. m;
      match = subst (Match k c []) (sym none) Match.end;
      foreign = λ f m. absurd (Memᴰ.not-nil (mem_of none m));
    }
