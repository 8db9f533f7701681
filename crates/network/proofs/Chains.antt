-- Operations one after another mean what was done on the screens: each strikes what it was meant to strike, and still stands.
-- They go on doing so past the entries of others; and what stands in the text that they leave was put in, and was not struck.
use Rattle.std.proofs.Common.{◌≡◌, ℕ, suc, ◌⊎◌, ◌≤◌, List, [], ◌∷◌, ◌++◌, length, take, drop, ◌≢◌, sym, refl, ap, ◌∙◌, subst, subst₂, inl, inr, ⊎_elim, arith, drop-drop}
use Rattle.std.proofs.lemmas.List.{append_assoc, append-nil}
use mathlib.Core.List.Memᴰ
use Rattle.operation.specs.Letters.{◌∈◌, Once, Apart}
use Rattle.operation.specs.Transform.{through}
use Rattle.operation.specs.Laws.{Kind, Meet, Laws, apply_all}
use Rattle.operation.proofs.Through.{meet_other}
use Rattle.network.specs.Runs.{Row, Deed, ops, count_of}
use Rattle.network.specs.OneRecord.{taken_of}
use Rattle.network.proofs.Invariants.{puts_all, put_in, replay, Fitting, Mine, Stack, Means, Chain, over, run, Heads, Match, Copy}
use Rattle.network.proofs.Grid.{taken_own, taken_other, run_own, run_other}
use Rattle.network.proofs.Letters.{mem_left, mem_right, mem_parts, mem_of, apart_join, once_left, once_right, once_apart, once_join, put_in_append, replay_append}
use Rattle.network.proofs.Lists.{take_on}
use Rattle.network.proofs.Stacks.{Along, along_fits, along_site, along_once, along_apart, along_own, along_other, copy_match, copy_along, stood_or_put, stack_own}

-- one of the deeds put x in
pub record PutBy {A : Type 0} (k : Kind A) (ds : List (Deed k)) (x : A) : Type 0 where
  pub deed : Deed k
  pub done : deed ∈ ds
  pub puts_it : x ∈ k.puts deed.op

-- one of the deeds struck x
pub record StruckBy {A : Type 0} (k : Kind A) (ds : List (Deed k)) (x : A) : Type 0 where
  pub deed : Deed k
  pub done : deed ∈ ds
  pub strikes_it : x ∈ k.strikes deed.op deed.before

module _ {A : Type 0} (k : Kind A) where
  means_known : (known more : List A) → ((x : A) → x ∈ known → x ∈ more) → (o : k.Op) (t : k.Text) (d : Deed k) → Means k known o t d → Means k more o t d
  means_known known more h o t d m = record { puts = m.puts; struck = m.struck; meant = m.meant; stood = λ x s. h x (m.stood x s) }

  -- more may be known
  pub chain_known : (known more : List A) → ((x : A) → x ∈ known → x ∈ more) → (os : List k.Op) (t : k.Text) (ds : List (Deed k)) → Chain k known os t ds →
      Chain k more os t ds
  unfolding Chain
  chain_known known more h [] t [] c = tt
  chain_known known more h [] t (d ∷ ds) c = c
  chain_known known more h (o ∷ os) t [] c = c
  chain_known known more h (o ∷ os) t (d ∷ ds) c = (
    means_known known more h o t d c.0,
    chain_known (known ++ k.puts o) (more ++ k.puts o) (λ x m. ⊎_elim (λ a. mem_left (k.puts o) (h x a)) (λ b. mem_right more b) (mem_parts known m)) os
        (k.apply o t) ds c.1,
  )

  pub chain_length : (known : List A) (os : List k.Op) (t : k.Text) (ds : List (Deed k)) → Chain k known os t ds → length ds ≡ length os
  unfolding Chain
  chain_length known [] t [] c = refl
  chain_length known [] t (d ∷ ds) c = absurd c
  chain_length known (o ∷ os) t [] c = absurd c
  chain_length known (o ∷ os) t (d ∷ ds) c = ap suc (chain_length (known ++ k.puts o) os (k.apply o t) ds c.1)

  -- the first is done to the text below
  pub chain_own : (known : List A) (o : k.Op) (os : List k.Op) (t : k.Text) (ds : List (Deed k)) → Chain k known (o ∷ os) t ds →
      Chain k (known ++ k.puts o) os (k.apply o t) (drop 1 ds)
  unfolding Chain
  chain_own known o os t [] c = absurd c
  chain_own known o os t (d ∷ ds) c = c.1

  pub chain_append : (known : List A) (os ps : List k.Op) (t : k.Text) (ds es : List (Deed k)) → Chain k known os t ds →
      Chain k (known ++ puts_all k os) ps (apply_all k os t) es → Chain k known (os ++ ps) t (ds ++ es)
  unfolding Chain puts_all apply_all
  chain_append known [] ps t [] es c b = subst (λ xs. Chain k xs ps t es) (append-nil known) b
  chain_append known [] ps t (d ∷ ds) es c b = absurd c
  chain_append known (o ∷ os) ps t [] es c b = absurd c
  chain_append known (o ∷ os) ps t (d ∷ ds) es c b = (
    c.0,
    chain_append (known ++ k.puts o) os ps (k.apply o t) ds es c.1
        (subst (λ xs. Chain k xs ps (apply_all k os (k.apply o t)) es) (sym (append_assoc known (k.puts o) (puts_all k os))) b),
  )

  -- and the other way round: a first part is a chain
  pub chain_front : (known : List A) (os ps : List k.Op) (t : k.Text) (ds es : List (Deed k)) → length ds ≡ length os → Chain k known (os ++ ps) t (ds ++ es) →
      Chain k known os t ds
  unfolding Chain
  chain_front known [] ps t [] es n c = tt
  chain_front known [] ps t (d ∷ ds) es n c = omega arith
  chain_front known (o ∷ os) ps t [] es n c = absurd (omega arith)
  chain_front known (o ∷ os) ps t (d ∷ ds) es n c = (c.0, chain_front (known ++ k.puts o) os ps (k.apply o t) ds es (omega arith) c.1)

  pub chain_first : (known : List A) (o : k.Op) (os : List k.Op) (t : k.Text) (ds : List (Deed k)) → Chain k known (o ∷ os) t ds → Chain k known (o ∷ []) t (take 1 ds)
  unfolding Chain
  chain_first known o os t [] c = c
  chain_first known o os t (d ∷ ds) c = (c.0, tt)

  module _ (l : Laws k) where
    -- what is done at once means itself
    pub chain_more : (known : List A) (os : List k.Op) (t : k.Text) (ds : List (Deed k)) (o : k.Op) →
        ((x : A) → x ∈ k.letters (apply_all k os t) → x ∈ known ++ puts_all k os) →
        Chain k known os t ds → Chain k known (os ++ o ∷ []) t (ds ++ record { op = o; before = apply_all k os t } ∷ [])
    unfolding Chain
    chain_more known os t ds o h c = chain_append known os (o ∷ []) t ds _ c
        (record { puts = refl; struck = λ x m. m; meant = λ x m n. m; stood = λ x m. h x (l.struck_stood o (apply_all k os t) x m) }, tt)

    means_other : (known : List A) (o e : k.Op) (t : k.Text) (d : Deed k) → Meet k o e t → Once (k.letters t) → Once (known ++ k.puts e) →
        Means k known o t d → Means k (known ++ k.puts e) (k.late o e) (k.apply e t) d
    means_other known o e t d m c n h = record {
      puts = l.late_side.puts_stay o e ∙ h.puts;
      struck = λ x s. h.struck x (l.late_side.strikes_less o e t x m c s).0;
      meant = λ x s a.
          let new : x ∈ k.puts e → ⊥ = once_apart known (k.puts e) n x (h.stood x s) in
          let there = ⊎_elim (λ b. absurd (new b)) (λ b. b) (l.comes_from e t x a) in
          l.late_side.strikes_rest o e t x m c (h.meant x s there) (λ b. new (l.struck_goes e t x c b a));
      stood = λ x s. mem_left (k.puts e) (h.stood x s);
    }

    -- an entry of somebody else is done to the text below
    pub chain_other : (i : ℕ) (known : List A) (t : k.Text) (e : k.Op) (p : List k.Op) (ds : List (Deed k)) → Stack k i known t p → k.Fits e t → k.site e ≢ i →
        Once (known ++ k.puts e) → Apart (puts_all k p) (k.puts e) → Chain k known p t ds → Chain k (known ++ k.puts e) (over k e p).others (k.apply e t) ds
    unfolding Chain through puts_all Mine
    chain_other i known t e [] [] s f n u h c = tt
    chain_other i known t e [] (d ∷ ds) s f n u h c = c
    chain_other i known t e (o ∷ p) [] s f n u h c = c
    chain_other i known t e (o ∷ p) (d ∷ ds) s f n u h c =
        let m : Meet k o e t = record { differ = λ z. n (sym z ∙ s.mine.0); fits_a = s.mine.1; fits_b = f } in
        let b = k.early e o in
        let pb : k.puts b ≡ k.puts e = l.early_side.puts_stay e o in
        let po : k.puts (k.late o e) ≡ k.puts o = l.late_side.puts_stay o e in
        let ko : Once (known ++ k.puts o) = once_left (known ++ k.puts o) (puts_all k p) (subst Once (sym (append_assoc known (k.puts o) (puts_all k p))) s.once) in
        let kb : Once ((known ++ k.puts o) ++ k.puts b) = subst (λ xs. Once ((known ++ k.puts o) ++ xs)) (sym pb)
        (once_join (known ++ k.puts o) (k.puts e) ko (once_right known (k.puts e) u)
        (apart_join known (k.puts o) (k.puts e) (once_apart known (k.puts e) u) (λ x w v. h x (mem_left (puts_all k p) w) v))) in (
          means_other known o e t d m s.clean u c.0,
          chain_known ((known ++ k.puts o) ++ k.puts b) ((known ++ k.puts e) ++ k.puts (k.late o e))
              (λ x w. ⊎_elim (λ w. ⊎_elim (λ w. mem_left (k.puts (k.late o e)) (mem_left (k.puts e) w)) (λ w. mem_right (known ++ k.puts e) (mem_of (sym po) w))
              (mem_parts known w))
              (λ w. mem_left (k.puts (k.late o e)) (mem_right known (mem_of pb w))) (mem_parts (known ++ k.puts o) w))
              (over k b p).others (k.apply (k.late o e) (k.apply e t)) ds
              (subst (λ u. Chain k ((known ++ k.puts o) ++ k.puts b) (over k b p).others u ds) (sym (l.tp1 o e t m))
              (chain_other i (known ++ k.puts o) (k.apply o t) b p ds (stack_own k l i known t o p s) (l.early_side.fits e o t (meet_other k o e t m))
              (λ z. n (sym (l.early_side.site_stays e o) ∙ z)) kb
              (λ x w v. h x (mem_right (k.puts o) w) (mem_of pb v)) c.1)),
        )

    chain_drops : (known : List A) (o : k.Op) (p : List k.Op) (t : k.Text) (ds : List (Deed k)) → Heads k p o → Chain k known p t ds →
        Chain k (known ++ k.puts o) (drop 1 p) (k.apply o t) (drop 1 ds)
    unfolding Chain
    chain_drops known o [] t [] h b = tt
    chain_drops known o [] t (d ∷ ds) h b = absurd b
    chain_drops known o (f ∷ p) t ds h b = subst (λ a. Chain k (known ++ k.puts a) p (k.apply a t) (drop 1 ds)) h (chain_own known f p t ds b)

    -- what is pending goes on being a chain along the entries to come
    chain_along : {i c : ℕ} {typed : List A} {p : List k.Op} {es : List (Row k.Op)} → Match k c p es → (s : ℕ) (known : List A) (t : k.Text) (ds : List (Deed k)) →
        Along k i c typed p es known t → Chain k known p t ds → Chain k (known ++ put_in k es) (run k c s p es).out (apply_all k (ops es) t) (drop (taken_of c es) ds)
    unfolding run puts_all apply_all count_of
    chain_along {p} Match.end s known t ds a b = subst (λ xs. Chain k xs p t ds) (sym (append-nil known)) b
    chain_along {i} {c} (Match.own {p} {e} {es} h hd m) s known t ds a b =
        let u : drop (taken_of c es) (drop 1 ds) ≡ drop (taken_of c (e ∷ es)) ds = drop-drop (taken_of c es) 1 ds ∙ ap (λ j. drop j ds)
        (omega (arith, taken_own c e es h)) in
        subst (λ xs. Chain k xs (run k c s p (e ∷ es)).out (apply_all k (ops es) (k.apply e.op t)) (drop (taken_of c (e ∷ es)) ds))
        (append_assoc known (k.puts e.op) (put_in k es))
        (subst₂ (λ r es'. Chain k ((known ++ k.puts e.op) ++ put_in k es) r.out (apply_all k (ops es) (k.apply e.op t)) es') (sym (run_own k c s p e es h)) u
        (chain_along m (suc s) (known ++ k.puts e.op) (k.apply e.op t) (drop 1 ds) (along_own k l i a hd) (chain_drops known e.op p t ds hd b)))
    chain_along {i} {c} (Match.other {p} {e} {es} h m) s known t ds a b =
        subst (λ xs. Chain k xs (run k c s p (e ∷ es)).out (apply_all k (ops es) (k.apply e.op t)) (drop (taken_of c (e ∷ es)) ds))
        (append_assoc known (k.puts e.op) (put_in k es))
        (subst₂ (λ r j. Chain k ((known ++ k.puts e.op) ++ put_in k es) r.out (apply_all k (ops es) (k.apply e.op t)) (drop j ds)) (sym (run_other k c s p e es h))
        (sym (taken_other c e es h))
        (chain_along m (suc s) (known ++ k.puts e.op) (k.apply e.op t) ds (along_other k l i a h)
        (chain_other i known t e.op p ds a.stack (along_fits k l i a) (along_site k l i a h) (along_once k l i a) (along_apart k l i a h) b)))

    -- the same of a copy, up to the entry u
    pub copy_chain : {c i : ℕ} {rows : List (Row k.Op)} {h : ℕ} {typed : List A} {s : ℕ} {p : List k.Op} {t : k.Text} → Copy k c i rows h typed s p t →
        Fitting k (ops rows) k.empty → Once (put_in k rows) → ((e : Row k.Op) → e ∈ rows → e.by ≢ c → Apart typed (k.puts e.op)) → (u : ℕ) →
        s ≤ u → u ≤ h → (ds : List (Deed k)) → Chain k (put_in k (take s rows)) p (replay k (take s rows)) ds →
        Chain k (put_in k (take u rows)) (run k c s p (drop s (take u rows))).out (replay k (take u rows)) (drop (taken_of c (drop s (take u rows))) ds)
    copy_chain {c} {rows} {s} {p} y fitting once apart u from to ds b =
        let split = take_on s u rows from in
        subst₂ (λ xs t. Chain k xs (run k c s p (drop s (take u rows))).out t (drop (taken_of c (drop s (take u rows))) ds))
        (sym (ap (put_in k) split ∙ put_in_append k (take s rows) _)) (sym (ap (replay k) split ∙ replay_append k (take s rows) _))
        (chain_along (copy_match k l y fitting once apart u from to) s _ _ ds (copy_along k l y fitting once apart u from to) b)

    -- WHAT STANDS IN THE TEXT THAT A CHAIN LEAVES
    -- x, which is known, stands in the end only if it stands at first
    known_stood : {x : A} (known : List A) (os : List k.Op) (t : k.Text) → Once (known ++ puts_all k os) → x ∈ known → x ∈ k.letters (apply_all k os t) → x ∈ k.letters t
    known_stood {x} known os t u m n = ⊎_elim (λ a. a) (λ b. absurd (once_apart known (puts_all k os) u x m b)) (stood_or_put k l os t n)

    put_now : {ds : List (Deed k)} {x : A} (d : Deed k) → PutBy k ds x → PutBy k (d ∷ ds) x
    put_now d p = record { deed = p.deed; done = Memᴰ.tail p.done; puts_it = p.puts_it }

    struck_now : {ds : List (Deed k)} {x : A} (d : Deed k) → StruckBy k ds x → StruckBy k (d ∷ ds) x
    struck_now d p = record { deed = p.deed; done = Memᴰ.tail p.done; strikes_it = p.strikes_it }

    -- what stands in the end stood at first or was put in
    pub stands_put : {x : A} (known : List A) (os : List k.Op) (t : k.Text) (ds : List (Deed k)) → Chain k known os t ds → x ∈ k.letters (apply_all k os t) →
        x ∈ k.letters t ⊎ PutBy k ds x
    unfolding Chain apply_all
    stands_put known [] t [] c m = inl m
    stands_put known [] t (d ∷ ds) c m = absurd c
    stands_put known (o ∷ os) t [] c m = absurd c
    stands_put known (o ∷ os) t (d ∷ ds) c m = ⊎_elim
        (λ a. ⊎_elim (λ p. inr (record { deed = d; done = Memᴰ.head refl; puts_it = mem_of c.0.puts p })) (λ s. inl s) (l.comes_from o t _ a))
        (λ p. inr (put_now d p)) (stands_put (known ++ k.puts o) os (k.apply o t) ds c.1 m)

    -- and none of the deeds struck it
    pub stands_unstruck : {x : A} (known : List A) (os : List k.Op) (t : k.Text) (ds : List (Deed k)) → Chain k known os t ds → Once (k.letters t) →
        ((y : A) → y ∈ k.letters t → y ∈ known) → Once (known ++ puts_all k os) → x ∈ k.letters (apply_all k os t) → StruckBy k ds x → ⊥
    unfolding Chain apply_all puts_all
    stands_unstruck known [] t [] c n f u m s = Memᴰ.not-nil s.done
    stands_unstruck known [] t (d ∷ ds) c n f u m s = c
    stands_unstruck known (o ∷ os) t [] c n f u m s = c
    stands_unstruck {x} known (o ∷ os) t (d ∷ ds) c n f u m s =
        let v : Once ((known ++ k.puts o) ++ puts_all k os) = subst Once (sym (append_assoc known (k.puts o) (puts_all k os))) u in
        let w : Once (known ++ k.puts o) = once_left (known ++ k.puts o) (puts_all k os) v in
        ⊎_elim
        (λ e. let y : x ∈ k.strikes d.op d.before = subst (λ z. x ∈ k.strikes z.op z.before) e s.strikes_it in
        let old : x ∈ known = c.0.stood x y in
        let new : x ∈ k.puts o → ⊥ = once_apart known (k.puts o) w x old in
        let a : x ∈ k.letters (k.apply o t) = known_stood (known ++ k.puts o) os (k.apply o t) v (mem_left (k.puts o) old) m in
        let b : x ∈ k.letters t = ⊎_elim (λ p. absurd (new p)) (λ r. r) (l.comes_from o t x a) in
        new (l.struck_goes o t x n (c.0.meant x y b) a))
        (λ r. stands_unstruck (known ++ k.puts o) os (k.apply o t) ds c.1
        (l.stays_once o t n (once_right known (k.puts o) w) (λ z p q. once_apart known (k.puts o) w z (f z q) p))
        (λ z q. ⊎_elim (λ p. mem_right known p) (λ b. mem_left (k.puts o) (f z b)) (l.comes_from o t z q)) v m
        (record { deed = s.deed; done = r; strikes_it = s.strikes_it }))
        (Memᴰ.cases_cons s.done)

    -- what stood at first stands in the end, or a deed struck it
    pub stood_until : {x : A} (known : List A) (os : List k.Op) (t : k.Text) (ds : List (Deed k)) → Chain k known os t ds → x ∈ k.letters t →
        x ∈ k.letters (apply_all k os t) ⊎ StruckBy k ds x
    unfolding Chain apply_all
    stood_until known [] t [] c m = inl m
    stood_until known [] t (d ∷ ds) c m = absurd c
    stood_until known (o ∷ os) t [] c m = absurd c
    stood_until {x} known (o ∷ os) t (d ∷ ds) c m = ⊎_elim
        (λ s. inr (record { deed = d; done = Memᴰ.head refl; strikes_it = c.0.struck x s }))
        (λ a. ⊎_elim (λ b. inl b) (λ s. inr (struck_now d s)) (stood_until (known ++ k.puts o) os (k.apply o t) ds c.1 a)) (l.struck_or_stays o t x m)

    -- so does what was put in
    pub put_until : {x : A} (known : List A) (os : List k.Op) (t : k.Text) (ds : List (Deed k)) → Chain k known os t ds → PutBy k ds x →
        x ∈ k.letters (apply_all k os t) ⊎ StruckBy k ds x
    unfolding Chain apply_all
    put_until known [] t [] c p = absurd (Memᴰ.not-nil p.done)
    put_until known [] t (d ∷ ds) c p = absurd c
    put_until known (o ∷ os) t [] c p = absurd c
    put_until {x} known (o ∷ os) t (d ∷ ds) c p = ⊎_elim {C = x ∈ k.letters (apply_all k os (k.apply o t)) ⊎ StruckBy k (d ∷ ds) x} (λ b. inl b) (λ s. inr (struck_now d s))
        (⊎_elim
        (λ e. stood_until (known ++ k.puts o) os (k.apply o t) ds c.1 (l.put_stands o t x (mem_of (sym c.0.puts) (subst (λ z. x ∈ k.puts z.op) e p.puts_it))))
        (λ r. put_until (known ++ k.puts o) os (k.apply o t) ds c.1 (record { deed = p.deed; done = r; puts_it = p.puts_it })) (Memᴰ.cases_cons p.done))
