-- What has left a text never stands there again: what was applied stays applied, and what was struck is struck.
use Rattle.std.proofs.Common.{◌≡◌, ℕ, ◌<◌, ◌≤◌, ◌⊎◌, List, length, take, drop, ◌≢◌, ◌==◌, refl, sym, ap, ◌∙◌, subst, subst₂, inl, inr, ⊎_elim, arith}
use Rattle.std.proofs.lemmas.Bool.{cases_lt, cases_eq, cond-true, cond-false, eq-eqb, ne_eqb}
use Rattle.std.proofs.lemmas.Bool.Decides.{nat_tests}
use Rattle.std.proofs.lemmas.List.{take-append-drop, take_all}
use mathlib.Core.List.Memᴰ
use Rattle.operation.specs.Letters.{◌∈◌, Once}
use Rattle.operation.specs.Laws.{Kind, Laws}
use Rattle.network.specs.Runs.{Deed, Life, Net, at, performing, Current, Step, performs, reports, takes, hears, sees, joins, ends, crashes, here, onward, Path, Reachable}
use Rattle.network.specs.OneRecord.{taken_of, Viewer, server, life, text_of, Exists, applied, PutIn, Struck, OnlyIfTyped, UntilStruck, AtOnce, LostInsertion, StandsUntilStruck, TypedWasPut, LostDeletion, NeverBack}
use Rattle.network.proofs.Invariants.{puts_all, typed_in, Good}
use Rattle.network.proofs.Lists.{mem_take, mem_drop, mem_split, Front, front_same, front_on, front_take, front_drop, mem_front, length_front}
use Rattle.network.proofs.Growth.{taken_front, Grown, grown, grown_step, Elder, elder, taken_take}
use Rattle.network.proofs.Letters.{mem_of, mem_right, mem_parts, once_join, once_apart, typed_append, typed_snoc, typed_among}
use Rattle.network.proofs.Seats.{everywhere, at_place}
use Rattle.network.proofs.Paths.{reach_path}
use Rattle.network.proofs.Nets.{good}
use Rattle.network.proofs.Convergence.{done_at_once}

module _ {A : Type 0} (k : Kind A) where
  -- LETTERS THAT ARE TYPED IN ONE LIFE, each once
  once_at : (n : Net k) → ((c : ℕ) → Once (typed_in k (n.lives c).deeds)) → (c : ℕ) (l : Life k) → Once (typed_in k l.deeds) → (j : ℕ) →
      Once (typed_in k (at c l n.lives j).deeds)
  once_at n h c l o = everywhere (λ _ (l : Life k). Once (typed_in k l.deeds)) c l n.lives o (λ j ne. h j)

  once_step : (n m : Net k) → Good k n → Step k n m → ((c : ℕ) → Once (typed_in k (n.lives c).deeds)) → (c : ℕ) → Once (typed_in k (m.lives c).deeds)
  unfolding Once puts_all
  once_step n _ g (performs c o u s f once apart) h = once_at n h c (performing k o (n.lives c))
      (subst Once (sym (typed_snoc k (n.lives c).deeds _)) (once_join _ (k.puts o) (h c) once (λ x a b. apart x b (g.lettered.typed c x a))))
  once_step n _ g (reports c u) h = once_at n h c _ (h c)
  once_step n _ g (takes c m rest u q) h = once_at n h c _ (h c)
  once_step n _ g (hears c r rest u q) h = once_at n h c _ (h c)
  once_step n _ g (sees c e before after u q f s) h = once_at n h c _ (h c)
  once_step n _ g (joins p i a b) h = once_at n h n.connections _ tt
  once_step n _ g (ends c u) h = once_at n h c _ (h c)
  once_step n _ g crashes h = h

  typed_twice : (i : ℕ) (ds : List (Deed k)) → Once (typed_in k ds) → {x : A} {d e : Deed k} → d ∈ take i ds → e ∈ drop i ds → x ∈ k.puts d.op → x ∈ k.puts e.op → ⊥
  typed_twice i ds o {x} m w a b = once_apart (typed_in k (take i ds)) (typed_in k (drop i ds))
      (subst Once (ap (typed_in k) (sym (take-append-drop i ds)) ∙ typed_append k (take i ds) (drop i ds)) o) x (typed_among k m a) (typed_among k w b)

  -- WHAT WAS APPLIED TO A TEXT, of connection j, later too
  abbrev Done : Net k → Viewer → ℕ → Deed k → Type 0
  Done n v j d = d ∈ take (applied k n v j) (n.lives j).deeds

  begun : (n : Net k) → Good k n → (j : ℕ) {d : Deed k} → d ∈ (n.lives j).deeds → j < n.connections
  begun n g j m = ⊎_elim (λ h. h) (λ h. absurd (Memᴰ.not-nil (mem_of (ap (λ (l : Life k). l.deeds) (g.seated.unused j h).0) m))) (cases_lt j n.connections)

  exists_later : (n m : Net k) → Grown k n m → (v : Viewer) → Exists k n v → Exists k m v
  exists_later n m f server u = u
  exists_later n m f (life c) u = omega (arith, f.connections)

  applied_more : (n m : Net k) → Grown k n m → (v : Viewer) → Exists k n v → (j : ℕ) → applied k n v j ≤ applied k m v j
  applied_more n m f server u j = taken_front j f.rows
  applied_more n m f (life c) u j = let s = taken_front j (front_take _ _ (f.lives c u).revision f.rows) in grind (arith, nat_tests, length_front (f.lives c u).deeds)

  module _ (n m : Net k) (g : Good k n) (f : Grown k n m) where
    done_later : (v : Viewer) → Exists k n v → (j : ℕ) {d : Deed k} → Done n v j d → Done m v j d
    done_later v u j h = mem_front (front_take _ _ (applied_more n m f v u j) (f.lives j (begun n g j (mem_take _ _ h))).deeds) h

    put_later : (v : Viewer) → Exists k n v → (x : A) → PutIn k n v x → PutIn k m v x
    put_later v u x p = record { by = p.by; deed = p.deed; done = done_later v u p.by p.done; puts_it = p.puts_it }

    struck_later : (v : Viewer) → Exists k n v → (x : A) → Struck k n v x → Struck k m v x
    struck_later v u x p = record { by = p.by; deed = p.deed; done = done_later v u p.by p.done; strikes_it = p.strikes_it }

    -- what the server has taken, a life that begins later has from its beginning
    done_newborn : (c : ℕ) → n.connections ≤ c → c < m.connections → (j : ℕ) {d : Deed k} → Done n server j d → Done m (life c) j d
    done_newborn c u v j h = mem_front (front_take _ _ (subst (λ i. taken_of j n.rows ≤ i) (sym (cond-false (j == c) _ _ (ne_eqb j c (λ e. omega (arith, w)))))
        (taken_front j (subst (λ rows. Front rows (take (m.lives c).replica.revision m.rows)) (take_all (length n.rows) n.rows (omega arith))
        (front_take _ _ (f.newborns c u v) f.rows))))
        (f.lives j w).deeds) h
      where
        w : j < n.connections
        w = begun n g j (mem_take _ _ h)

  -- what a life has seen of another connection, the server has taken
  done_taken : (n : Net k) (c j : ℕ) → j ≢ c → {d : Deed k} → Done n (life c) j d → Done n server j d
  done_taken n c j ne h = mem_front (front_take _ _ (subst (λ i. i ≤ taken_of j n.rows) (sym (cond-false (j == c) _ _ (ne_eqb j c ne))) (taken_take j _ n.rows))
      (front_same _)) h

  -- and of an earlier connection of its client it has all that
  done_elder : (n : Net k) → Elder k n → (b c : ℕ) → b < c → c < n.connections → (n.lives b).client ≡ (n.lives c).client → {d : Deed k} → Done n server b d →
      Done n (life c) b d
  done_elder n h b c u v e m = mem_front (front_take _ _
      (subst (λ i. taken_of b n.rows ≤ i) (sym (cond-false (b == c) _ _ (ne_eqb b c (λ z. omega arith)))) (omega (arith, h b c u v e))) (front_same _)) m

  -- of two that are current at two times, with one client, the second is the first or has begun later
  pub in_turn : (n m : Net k) → Grown k n m → (b c : ℕ) → Current k n b → Current k m c → (n.lives b).client ≡ (m.lives c).client → (b ≡ c) ⊎ (n.connections ≤ c)
  in_turn n m f b c u v e = ⊎_elim (λ z. inl z) (λ ne. inr (⊎_elim (λ (w : c < n.connections). absurd (⊎_elim
      (λ z. u.1 c z w (sym (f.lives c w).client ∙ sym e))
      (λ z. v.1 b (omega arith) (omega (arith, u.0, f.connections)) ((f.lives b u.0).client ∙ e)) (cases_lt b c))) (λ w. w) (cases_lt c n.connections))) (cases_eq b c)

  module _ (l : Laws k) where
    pub typed_once : (n : Net k) → Reachable k n → (c : ℕ) → Once (typed_in k (n.lives c).deeds)
    unfolding Once puts_all
    typed_once _ here c = tt
    typed_once n (onward {m} p s w) c = once_step m n (good k l m p) s (typed_once m p) c

    -- WHATEVER WAS TYPED was put in
    abbrev PutIn_some : Net k → A → Type 0
    PutIn_some n x = (c : ℕ) × (c < n.connections) × PutIn k n (life c) x

    put_by : (n m : Net k) → Step k n m → (x : A) → x ∈ m.typed → (x ∈ n.typed) ⊎ PutIn_some m x
    put_by n _ (performs c o u s f once apart) x h = ⊎_elim (λ a. inl a) (λ a. inr (
      c,
      u.0,
      record {
        by = c;
        deed = d;
        done = subst₂ (λ i (w : Life k). d ∈ take i w.deeds) (sym (cond-true (c == c) _ _ (eq-eqb c c refl))) (sym here_now)
            (mem_of (sym (take_all _ _ (subst (λ (w : Life k). length (performing k o (n.lives c)).deeds ≤ length w.deeds) (sym here_now) (omega arith))))
            (mem_right (n.lives c).deeds (Memᴰ.head refl)));
        puts_it = a;
      },
    )) (mem_parts n.typed h)
      where
        d : Deed k
        d = record { op = o; before = (n.lives c).replica.text }

        here_now : at c (performing k o (n.lives c)) n.lives c ≡ performing k o (n.lives c)
        here_now = at_place c c (performing k o (n.lives c)) n.lives refl
    put_by n _ (reports c u) x h = inl h
    put_by n _ (takes c m rest u q) x h = inl h
    put_by n _ (hears c r rest u q) x h = inl h
    put_by n _ (sees c e before after u q f s) x h = inl h
    put_by n _ (joins p i a b) x h = inl h
    put_by n _ (ends c u) x h = inl h
    put_by n _ crashes x h = inl h

    pub typed_was_put : TypedWasPut k
    typed_was_put _ here x h = absurd (Memᴰ.not-nil h)
    typed_was_put n (onward {m} p s w) x h = ⊎_elim
        (λ a. let q = typed_was_put m p x a in
        let f = grown_step k m n (good k l m p) s in
        (q.0, exists_later m n f (life q.0) q.1, put_later m n (good k l m p) f (life q.0) q.1 x q.2))
        (λ a. a) (put_by m n s x h)

    module _ (only : OnlyIfTyped k) (until : UntilStruck k) where
      -- TWO TIMES
      module _ (n m : Net k) (r : Reachable k n) (p : Path k n m) (x : A) where
        rm : Reachable k m
        rm = reach_path k r p

        f : Grown k n m
        f = grown k l n m r p

        -- one text, the server's or of one life
        stands : (v : Viewer) → Exists k n v → x ∈ k.letters (text_of k n v) → x ∈ k.letters (text_of k m v) ⊎ Struck k m v x
        stands v u y = until m rm v (exists_later n m f v u) x (put_later n m (good k l n r) f v u x (only n r v u x y).1)

        gone : (v : Viewer) → Exists k n v → x ∈ k.letters (text_of k n v) → (x ∈ k.letters (text_of k m v) → ⊥) → Struck k m v x
        gone v u y h = ⊎_elim (λ a. absurd (h a)) (λ s. s) (stands v u y)

        -- one screen, in lives b and c: the second text has had it put in, too, or it was lost
        module _ (b c : ℕ) (ub : Current k n b) (uc : Current k m c) (same : (n.lives b).client ≡ (m.lives c).client) (y : x ∈ k.letters (n.lives b).replica.text) where
          put_or_lost : PutIn k m (life c) x ⊎ LostInsertion k n m b c x
          put_or_lost = ⊎_elim (λ e. inl (subst (λ j. PutIn k m (life j) x) e (put_later n m (good k l n r) f (life b) ub.0 x i)))
              (λ u. ⊎_elim (own u) (other u) (cases_eq i.by b))
              (in_turn n m f b c ub uc same)
            where
              i : PutIn k n (life b) x
              i = (only n r (life b) ub.0 x y).1

              own : n.connections ≤ c → i.by ≡ b → PutIn k m (life c) x ⊎ LostInsertion k n m b c x
              own u s = ⊎_elim
                  (λ a. inl (record {
                    by = b;
                    deed = i.deed;
                    done = done_elder m (elder k l m rm) b c (omega (arith, ub.0)) uc.0 ((f.lives b ub.0).client ∙ same)
                        (mem_front (front_take _ _ (omega arith) (f.lives b ub.0).deeds) a);
                    puts_it = i.puts_it;
                  }))
                  (λ a. inr (record { earlier = omega (arith, ub.0); deed = i.deed; lost = a; puts_it = i.puts_it }))
                  (mem_split (taken_of b m.rows) (n.lives b).deeds (subst (λ j. i.deed ∈ (n.lives j).deeds) s (mem_take _ _ i.done)))

              other : n.connections ≤ c → i.by ≢ b → PutIn k m (life c) x ⊎ LostInsertion k n m b c x
              other u ne = inl (record {
                by = i.by;
                deed = i.deed;
                done = done_newborn n m (good k l n r) f c u uc.0 i.by
                    (done_taken n b i.by ne i.done);
                puts_it = i.puts_it;
              })

          on_screen : x ∈ k.letters (m.lives c).replica.text ⊎ (Struck k m (life c) x ⊎ LostInsertion k n m b c x)
          on_screen = ⊎_elim (λ a. ⊎_elim (λ z. inl z) (λ z. inr (inl z)) (until m rm (life c) uc.0 x a)) (λ z. inr (inr z)) put_or_lost

      pub stands_until_struck : StandsUntilStruck k
      stands_until_struck = record { of_text = λ n m r p v u x. stands n m r p x v u; of_screen = λ n m r p b c ub uc same x. on_screen n m r p x b c ub uc same }

      pub at_once : AtOnce k
      at_once = record {
        done = done_at_once k l;
        struck = λ n m r s c d u e x y z. (only m (onward r s tt) (life c) u x z).2 (record {
          by = c;
          deed = d;
          done = subst (λ i. d ∈ take i (m.lives c).deeds) (sym (cond-true (c == c) _ _ (eq-eqb c c refl)))
              (mem_of (sym (take_all (length (m.lives c).deeds) (m.lives c).deeds (omega arith))) (mem_of (sym e) (mem_right (n.lives c).deeds (Memᴰ.head refl))));
          strikes_it = y;
        });
      }

      -- THREE TIMES
      module _ (n m o : Net k) (r : Reachable k n) (p : Path k n m) (q : Path k m o) (x : A) where
        ro : Reachable k o
        ro = reach_path k (rm n m r p x) q

        g : Grown k m o
        g = grown k l m o (rm n m r p x) q

        never : (v : Viewer) → Exists k n v → x ∈ k.letters (text_of k n v) → (x ∈ k.letters (text_of k m v) → ⊥) → x ∈ k.letters (text_of k o v) → ⊥
        never v u y h z = (only o ro v (exists_later m o g v w) x z).2 (struck_later m o (good k l m (rm n m r p x)) g v w x (gone n m r p x v u y h))
          where
            w : Exists k m v
            w = exists_later n m (f n m r p x) v u

        -- one screen, in lives b, c and d
        module _ (b c d : ℕ) (ub : Current k n b) (uc : Current k m c) (ud : Current k o d) (eb : (n.lives b).client ≡ (o.lives d).client)
            (ec : (m.lives c).client ≡ (o.lives d).client) (y : x ∈ k.letters (n.lives b).replica.text)
            (h : x ∈ k.letters (m.lives c).replica.text → ⊥) (z : x ∈ k.letters (o.lives d).replica.text) where
          cd : (c ≡ d) ⊎ (m.connections ≤ d)
          cd = in_turn m o g c d uc ud ec

          -- what was put in over an earlier connection and the history does not have, no later life of the client ever shows
          lost : LostInsertion k n m b c x → ⊥
          lost i = ⊎_elim
              (λ s. typed_twice (taken_of b m.rows) (o.lives b).deeds (typed_once o ro b)
              (subst (λ i. j.deed ∈ take i (o.lives b).deeds) ends (done_taken o d b before (subst (λ i. Done o (life d) i j.deed) s j.done)))
              (mem_front (front_drop (taken_of b m.rows) later) i.lost) j.puts_it i.puts_it)
              (λ ne. (good k l o ro).lettered.apart j.by b ne x (typed_among k (mem_take _ _ j.done) j.puts_it)
              (typed_among k (mem_front later (mem_drop (taken_of b m.rows) _ i.lost)) i.puts_it))
              (cases_eq j.by b)
            where
              grown_first : Grown k n m
              grown_first = f n m r p x

              j : PutIn k o (life d) x
              j = (only o ro (life d) ud.0 x z).1

              later : Front (n.lives b).deeds (o.lives b).deeds
              later = front_on (grown_first.lives b ub.0).deeds (g.lives b (omega (arith, ub.0, grown_first.connections))).deeds

              before : b ≢ d
              before = ⊎_elim (λ s e. omega (arith, i.earlier)) (λ s e. omega (arith, ub.0, grown_first.connections)) cd

              ends : taken_of b o.rows ≡ taken_of b m.rows
              ends = (g.over b (omega (arith, ub.0, grown_first.connections))
                  (λ s. (good k l m (rm n m r p x)).seated.last b c s i.earlier uc.0 (ec ∙ sym eb ∙ sym (grown_first.lives b ub.0).client))).1

          -- so the second text has had it struck
          struck : Struck k m (life c) x
          struck = ⊎_elim (λ z. absurd (h z)) (λ z. ⊎_elim (λ s. s) (λ i. absurd (lost i)) z) (on_screen n m r p x b c ub uc (eb ∙ sym ec) y)

          unstruck : Struck k o (life d) x → ⊥
          unstruck = (only o ro (life d) ud.0 x z).2

          back : LostDeletion k m o c d x
          back = ⊎_elim (λ e. absurd (unstruck (subst (λ j. Struck k o (life j) x) e (struck_later m o (good k l m (rm n m r p x)) g (life c) uc.0 x struck))))
              (λ u. ⊎_elim (own u) (other u) (cases_eq struck.by c)) cd
            where
              own : m.connections ≤ d → struck.by ≡ c → LostDeletion k m o c d x
              own u s = ⊎_elim
                  (λ a. absurd (unstruck (record { by = c; deed = struck.deed; done = kept u a; strikes_it = struck.strikes_it })))
                  (λ a. record { earlier = omega (arith, uc.0); deed = struck.deed; lost = a; strikes_it = struck.strikes_it })
                  (mem_split (taken_of c o.rows) (m.lives c).deeds (subst (λ j. struck.deed ∈ (m.lives j).deeds) s (mem_take _ _ struck.done)))
                where
                  kept : m.connections ≤ d → struck.deed ∈ take (taken_of c o.rows) (m.lives c).deeds → Done o (life d) c struck.deed
                  kept u a = done_elder o (elder k l o ro) c d (omega (arith, uc.0)) ud.0 ((g.lives c uc.0).client ∙ ec)
                      (mem_front (front_take _ _ (omega arith) (g.lives c uc.0).deeds) a)

              other : m.connections ≤ d → struck.by ≢ c → LostDeletion k m o c d x
              other u ne = absurd (unstruck (record {
                by = struck.by;
                deed = struck.deed;
                done = done_newborn m o (good k l m (rm n m r p x)) g d u ud.0 struck.by (done_taken m c struck.by ne struck.done);
                strikes_it = struck.strikes_it;
              }))

      pub never_back : NeverBack k
      never_back = record {
        of_server = λ n m o r p q x. never n m o r p q x server tt;
        of_screen = λ n m o r p q b c d ub uc ud eb ec x y h z. back n m o r p q x b c d ub uc ud eb ec y h z;
        of_life = λ n m o r p q c u x. never n m o r p q x (life c) u;
      }
