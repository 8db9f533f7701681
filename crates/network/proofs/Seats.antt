-- Each step leaves connections and who has them, and letters and whose they are, as they should be.
use Rattle.std.proofs.Common.{◌≡◌, ℕ, zero, suc, ◌+◌, ◌<◌, ◌≤◌, ◌⊎◌, Bool, true, false, cond, List, [], ◌∷◌, ◌++◌, length, drop, Some, None, Option, ◌==◌, ◌≢◌, refl, sym, ap, subst, inl, inr, ⊎_elim, ◌∙◌, arith}
use Rattle.std.proofs.lemmas.Bool.{cond-true, cond-false, cond_both, eq-eqb, ne_eqb, eqb-true, eqb-false}
use Rattle.std.proofs.lemmas.List.{drop_all}
use mathlib.Core.List.Memᴰ
use Rattle.operation.specs.declared.entry.Entry.{Entry}
use Rattle.operation.specs.declared.entry.Submission.{Submission}
use Rattle.operation.specs.Letters.{◌∈◌, Apart}
use Rattle.operation.specs.Laws.{Kind}
use Rattle.server.specs.Sessions.{Seat, free, joined_at, heard, told, ServerState}
use Rattle.network.specs.declared.message.Message.{Message}
use Rattle.network.specs.Runs.{Row, Life, Net, nobody, at, Current, Connected, first_end, newborn, ended_at, performing, with_queue, seeing, after_performing, after_reporting, after_taking, after_hearing, after_seeing, after_joining, after_ending, after_crashing, entry_of, reporting, start, Step, performs, reports, takes, hears, sees, joins, ends, crashes}
use Rattle.network.proofs.Invariants.{Seated, Lettered, typed_in, puts_all}
use Rattle.network.proofs.Copies.{told_connected}
use Rattle.network.proofs.Letters.{mem_left, mem_right, mem_parts, mem_of, typed_snoc}

-- a function that is changed at one place: there, elsewhere, and what holds of it everywhere
pub at_place : {X : Type 0} (i j : ℕ) (x : X) (f : ℕ → X) → j ≡ i → at i x f j ≡ x
at_place i j x f e = cond-true (j == i) x (f j) (eq-eqb j i e)

pub at_other : {X : Type 0} (i j : ℕ) (x : X) (f : ℕ → X) → j ≢ i → at i x f j ≡ f j
at_other i j x f n = cond-false (j == i) x (f j) (ne_eqb j i n)

pub everywhere : {X : Type 0} (P : ℕ → X → Type 0) (c : ℕ) (x : X) (f : ℕ → X) → P c x → ((j : ℕ) → j ≢ c → P j (f j)) →
    (j : ℕ) → P j (at c x f j)
everywhere P c x f h g j = cond_both (j == c) x (f j) (P j) (λ e. subst (λ i. P i x) (sym (eqb-true j c e)) h) (λ e. g j (eqb-false j c e))

-- and of two that are changed at the same place
at_two : {X Y : Type 0} (b : Bool) (P : X → Y → Type 0) (x x′ : X) (y y′ : Y) → (b ≡ true → P x y) → (b ≡ false → P x′ y′) →
    P (cond b x x′) (cond b y y′)
at_two true P x x′ y y′ h g = h refl
at_two false P x x′ y y′ h g = g refl

pub everywhere_both : {X Y : Type 0} (P : ℕ → X → Y → Type 0) (c : ℕ) (x : X) (f : ℕ → X) (y : Y) (g : ℕ → Y) → P c x y →
    ((j : ℕ) → j ≢ c → P j (f j) (g j)) → (j : ℕ) → P j (at c x f j) (at c y g j)
everywhere_both P c x f y g h r j =
    at_two (j == c) (P j) x (f j) y (g j) (λ e. subst (λ i. P i x y) (sym (eqb-true j c e)) h) (λ e. r j (eqb-false j c e))

module _ {A : Type 0} (k : Kind A) where
  -- a seat and its life are changed, and the others are told of an entry
  pub where_taken : (P : ℕ → Seat k.Op → Life k → Type 0) (n : Net k) (c : ℕ) (s : Seat k.Op) (e : Entry k.Op) (l : Life k) → P c s l →
      ((j : ℕ) → j ≢ c → P j (told e (n.server.seats j)) (n.lives j)) → (j : ℕ) → P j (at c s (λ i. told e (n.server.seats i)) j) (at c l n.lives j)
  where_taken P n c s e l = everywhere_both P c s (λ i. told e (n.server.seats i)) l n.lives

  -- CONNECTIONS: what a step may make of a seat and a life at j, where nobody joins
  record Stays (n : Net k) (j : ℕ) (s : Seat k.Op) (l : Life k) : Type 0 where
    was : s.connected ≡ true → Connected k n j
    still : j < n.connections → l.ended ≡ None → s.connected ≡ true
    site : l.site ≡ (n.lives j).site
    client : l.client ≡ (n.lives j).client
    unused : n.connections ≤ j → (l ≡ nobody k) × (s ≡ free)

  stays : (n : Net k) → Seated k n → (j : ℕ) → Stays n j (n.server.seats j) (n.lives j)
  stays n g j = record { was = λ h. h; still = g.unended j; site = refl; client = refl; unused = g.unused j }

  seated_stays : (n : Net k) → Seated k n → (v : ServerState k) (rows : List (Row k.Op)) (lives : ℕ → Life k) (typed : List A) →
      ((j : ℕ) → Stays n j (v.seats j) (lives j)) → Seated k (record { server = v; rows = rows; lives = lives; connections = n.connections; typed = typed })
  seated_stays n g v rows lives typed h = record {
    given = λ c u. g.given c ((h c).was u);
    unended = λ c. (h c).still;
    sites = λ c d u w ne e. g.sites c d ((h c).was u) ((h d).was w) ne (sym (h c).site ∙ e ∙ (h d).site);
    last = λ c d u a b e. g.last c d ((h c).was u) a b (sym (h d).client ∙ e ∙ (h c).client);
    unused = λ c. (h c).unused;
  }

  pub seated_start : Seated k (start k)
  seated_start = record {
    given = λ c u. absurd (cc);
    unended = λ c u. absurd (omega arith);
    sites = λ c d u. absurd (cc);
    last = λ c d u. absurd (cc);
    unused = λ c u. (refl, refl);
  }

  -- a connection that the server has is the last of its client
  pub connected_current : (n : Net k) → Seated k n → (c : ℕ) → Connected k n c → Current k n c
  connected_current n g c u = (g.given c u, λ d h b. g.last c d u h b)

  -- a life that is changed and keeps its client, its site and whether its connection has ended
  stays_with : (n : Net k) → Seated k n → (c : ℕ) → c < n.connections → (s : Seat k.Op) (l : Life k) → s.connected ≡ (n.server.seats c).connected →
      l.ended ≡ (n.lives c).ended → l.site ≡ (n.lives c).site → l.client ≡ (n.lives c).client → Stays n c s l
  stays_with n g c u s l a e i p = record {
    was = λ h. sym a ∙ h;
    still = λ h y. a ∙ g.unended c u (sym e ∙ y);
    site = i;
    client = p;
    unused = λ h. absurd (omega arith);
  }

  -- where only a life changes
  seated_at : (n : Net k) → Seated k n → (rows : List (Row k.Op)) (typed : List A) (c : ℕ) (w : Life k) → Stays n c (n.server.seats c) w →
      Seated k (record { server = n.server; rows = rows; lives = at c w n.lives; connections = n.connections; typed = typed })
  seated_at n g rows typed c w h = seated_stays n g n.server rows (at c w n.lives) typed
      (everywhere (λ j l. Stays n j (n.server.seats j) l) c w n.lives h (λ j _. stays n g j))

  unended_first : (e : Option ℕ) (h : ℕ) → first_end e h ≡ None → ⊥
  unended_first None h e = cc
  unended_first (Some x) h e = cc

  stays_ended : (n : Net k) → Seated k n → (h j : ℕ) → Stays n j free (ended_at k h (n.lives j))
  stays_ended n g h j = record {
    was = λ e. absurd (cc);
    still = λ u e. absurd (unended_first (n.lives j).ended h e);
    site = refl;
    client = refl;
    unused = λ u. (ap (ended_at k h) (g.unused j u).0, refl);
  }

  seated_joins : (n : Net k) → Seated k n → (p i : ℕ) → ((c : ℕ) → Connected k n c → (n.lives c).site ≢ i) →
      ((c : ℕ) → Connected k n c → (n.lives c).client ≢ p) → Seated k (after_joining k p i n)
  seated_joins n g p i a b = record {
    given = either (λ c s l. s.connected ≡ true → c < n.connections + 1) (λ u. omega arith) (λ c ne u. omega (arith, g.given c u));
    unended = either (λ c s l. c < n.connections + 1 → l.ended ≡ None → s.connected ≡ true) (λ h e. refl) (λ c ne h e. g.unended c (omega arith) e);
    sites = λ c d u w. either (λ c s l. s.connected ≡ true → c ≢ d → l.site ≢ (m.lives d).site)
        (λ _. either (λ d s l. s.connected ≡ true → n.connections ≢ d → i ≢ l.site) (λ _ ne. absurd (ne refl)) (λ d ne u _ e. a d u (sym e)) d w)
        (λ c ne u. either (λ d s l. s.connected ≡ true → c ≢ d → (n.lives c).site ≢ l.site) (λ _ _. a c u) (λ d _ w. g.sites c d u w) d w) c u;
    last = λ c d. either (λ c s l. s.connected ≡ true → c < d → d < n.connections + 1 → (m.lives d).client ≢ l.client)
        (λ _ h r. absurd (omega arith))
        (λ c ne u. either (λ d s l. c < d → d < n.connections + 1 → l.client ≢ (n.lives c).client)
        (λ _ _ e. b c u (sym e)) (λ d ne h r. g.last c d u h (omega arith)) d) c;
    unused = either (λ c s l. n.connections + 1 ≤ c → (l ≡ nobody k) × (s ≡ free)) (λ h. absurd (omega arith)) (λ c ne h. g.unused c (omega arith));
  }
    where
      m : Net k
      m = after_joining k p i n

      either : (P : ℕ → Seat k.Op → Life k → Type 0) →
          P n.connections (joined_at (length n.server.history)) (newborn k p i n.server.text (length n.server.history)) →
          ((j : ℕ) → j ≢ n.connections → P j (n.server.seats j) (n.lives j)) → (j : ℕ) → P j ((after_joining k p i n).server.seats j) ((after_joining k p i n).lives j)
      either P = everywhere_both P n.connections (joined_at (length n.server.history)) n.server.seats (newborn k p i n.server.text (length n.server.history)) n.lives

  pub seated_step : (n m : Net k) → Seated k n → Step k n m → Seated k m
  seated_step n _ g (performs c o u s f x a) = seated_at n g _ _ c (performing k o (n.lives c)) (stays_with n g c u.0 _ _ refl refl refl refl)
  seated_step n _ g (reports c u) = seated_at n g _ _ c (reporting k (n.lives c)) (stays_with n g c u.0 _ _ refl refl refl refl)
  seated_step n _ g (takes c m rest u q) = seated_stays n g _ _ _ _ (where_taken (Stays n) n c _ _ _
      (stays_with n g c (g.given c u) _ _ refl refl refl refl)
      (λ j ne. record {
        was = λ h. sym (told_connected k _ (n.server.seats j)) ∙ h;
        still = λ h y. told_connected k _ (n.server.seats j) ∙ g.unended j h y;
        site = refl;
        client = refl;
        unused = λ h. ((g.unused j h).0, ap (told _) (g.unused j h).1);
      }))
  seated_step n _ g (hears c r rest u q) = seated_stays n g _ _ _ _ (everywhere_both (λ j s l. Stays n j s l) c (heard r (n.server.seats c)) n.server.seats
      (with_queue k rest (n.lives c)) n.lives (stays_with n g c (g.given c u) _ _ refl refl refl refl) (λ j ne. stays n g j))
  seated_step n _ g (sees c e before after u q f s) = seated_at n g _ _ c (seeing k c e (n.lives c)) (stays_with n g c u.0 _ _ refl refl refl refl)
  seated_step n _ g (joins p i a b) = seated_joins n g p i a b
  seated_step n _ g (ends c u) = seated_stays n g _ _ _ _ (everywhere_both (λ j s l. Stays n j s l) c free n.server.seats
      (ended_at k (length n.server.history) (n.lives c)) n.lives (stays_ended n g (length n.server.history) c) (λ j ne. stays n g j))
  seated_step n _ g crashes = seated_stays n g _ _ _ _ (stays_ended n g (length n.server.history))

  -- LETTERS: what a step may make of a life, where nobody types and nothing is taken
  record Owes (n : Net k) (j : ℕ) (l : Life k) : Type 0 where
    deeds : l.deeds ≡ (n.lives j).deeds
    site : l.site ≡ (n.lives j).site
    after_end : (h : ℕ) → l.ended ≡ Some h → (e : Row k.Op) → e ∈ drop h n.rows → e.by ≢ j

  owes : (n : Net k) → Lettered k n → (j : ℕ) → Owes n j (n.lives j)
  owes n g j = record { deeds = refl; site = refl; after_end = g.after_end j }

  lettered_owes : (n : Net k) → Lettered k n → (v : ServerState k) (lives : ℕ → Life k) → ((j : ℕ) → Owes n j (lives j)) →
      Lettered k (record { server = v; rows = n.rows; lives = lives; connections = n.connections; typed = n.typed })
  lettered_owes n g v lives h = record {
    typed = λ c x m. g.typed c x (subst (λ ds. x ∈ typed_in k ds) (h c).deeds m);
    apart = λ c d ne x m o. g.apart c d ne x (subst (λ ds. x ∈ typed_in k ds) (h c).deeds m) (subst (λ ds. x ∈ typed_in k ds) (h d).deeds o);
    owned = λ e m. let r = g.owned e m in (r.0, r.1 ∙ sym (h e.by).site, (λ x q. subst (λ ds. x ∈ typed_in k ds) (sym (h e.by).deeds) (r.2 x q)));
    after_end = λ c. (h c).after_end;
  }

  first_end_some : (e : Option ℕ) (h x : ℕ) → first_end e h ≡ Some x → (e ≡ Some x) ⊎ (h ≡ x)
  first_end_some None h x e = inr (cc)
  first_end_some (Some y) h x e = inl e

  owes_ended : (n : Net k) → Lettered k n → (h : ℕ) → length n.rows ≤ h → (j : ℕ) → Owes n j (ended_at k h (n.lives j))
  owes_ended n g h le j = record {
    deeds = refl;
    site = refl;
    after_end = λ x e r m. ⊎_elim (λ q. g.after_end j x q r m) (λ q. absurd (Memᴰ.not-nil (mem_of (drop_all x n.rows (omega arith)) m)))
        (first_end_some (n.lives j).ended h x e);
  }

  pub lettered_start : Lettered k (start k)
  unfolding puts_all
  lettered_start = record {
    typed = λ c x m. m;
    apart = λ c d ne x m. absurd (Memᴰ.not-nil m);
    owned = λ e m. absurd (Memᴰ.not-nil m);
    after_end = λ c h e r m. absurd (Memᴰ.not-nil (mem_of (drop_all h _ (omega arith)) m));
  }

  module _ (n : Net k) (g : Lettered k n) where
    lettered_at : (v : ServerState k) (c : ℕ) (w : Life k) → Owes n c w →
        Lettered k (record { server = v; rows = n.rows; lives = at c w n.lives; connections = n.connections; typed = n.typed })
    lettered_at v c w h = lettered_owes n g v (at c w n.lives) (everywhere (Owes n) c w n.lives h (λ j _. owes n g j))

    pub lettered_reports : (c : ℕ) → Lettered k (after_reporting k c n)
    lettered_reports c = lettered_at _ c (reporting k (n.lives c)) (record { deeds = refl; site = refl; after_end = g.after_end c })

    pub lettered_hears : (c r : ℕ) (rest : List (Message k.Op)) → Lettered k (after_hearing k c r rest n)
    lettered_hears c r rest = lettered_at _ c (with_queue k rest (n.lives c)) (record { deeds = refl; site = refl; after_end = g.after_end c })

    pub lettered_sees : (c : ℕ) (e : Row k.Op) → Lettered k (after_seeing k c e n)
    lettered_sees c e = lettered_at _ c (seeing k c e (n.lives c)) (record { deeds = refl; site = refl; after_end = g.after_end c })

    pub lettered_ends : (c : ℕ) → length n.rows ≤ length n.server.history → Lettered k (after_ending k c n)
    lettered_ends c h = lettered_at _ c (ended_at k (length n.server.history) (n.lives c)) (owes_ended n g (length n.server.history) h c)

    pub lettered_crashes : length n.rows ≤ length n.server.history → Lettered k (after_crashing k n)
    lettered_crashes h = lettered_owes n g _ _ (owes_ended n g (length n.server.history) h)

  pub lettered_performs : (n : Net k) → Lettered k n → (c : ℕ) (o : k.Op) → Apart (k.puts o) n.typed → Lettered k (after_performing k c o n)
  lettered_performs n g c o a = record {
    typed = λ j x. everywhere (λ j l. x ∈ typed_in k l.deeds → x ∈ n.typed ++ k.puts o) c life n.lives
        (λ m. ⊎_elim (λ q. mem_left (k.puts o) (g.typed c x q)) (λ q. mem_right n.typed q) (parts x m)) (λ j ne m. mem_left (k.puts o) (g.typed j x m)) j;
    apart = λ j d ne x m. everywhere (λ j l. x ∈ typed_in k l.deeds → (d : ℕ) → j ≢ d → x ∈ typed_in k (after.lives d).deeds → ⊥) c life n.lives
        (λ m. everywhere (λ d l. c ≢ d → x ∈ typed_in k l.deeds → ⊥) c life n.lives (λ ne. absurd (ne refl))
        (λ d _ ne q. ⊎_elim (λ p. g.apart c d ne x p q) (λ p. a x p (g.typed d x q)) (parts x m)))
        (λ j _ m. everywhere (λ d l. j ≢ d → x ∈ typed_in k l.deeds → ⊥) c life n.lives
        (λ ne q. ⊎_elim (λ p. g.apart j c ne x m p) (λ p. a x p (g.typed j x m)) (parts x q))
        (λ d _ ne q. g.apart j d ne x m q)) j m d ne;
    owned = λ e m. let r = g.owned e m in (
      r.0,
      everywhere (λ j l. e.by ≡ j → k.site e.op ≡ l.site) c life n.lives
          (λ q. r.1 ∙ ap (λ i. (n.lives i).site) q) (λ j _ q. r.1 ∙ ap (λ i. (n.lives i).site) q) e.by refl,
      (λ x p. everywhere (λ j l. e.by ≡ j → x ∈ typed_in k l.deeds) c life n.lives
          (λ q. mem_of (sym (typed_snoc k (n.lives c).deeds (record { op = o; before = (n.lives c).replica.text })))
          (mem_left (k.puts o) (subst (λ i. x ∈ typed_in k (n.lives i).deeds) q (r.2 x p))))
          (λ j _ q. subst (λ i. x ∈ typed_in k (n.lives i).deeds) q (r.2 x p)) e.by refl),
    );
    after_end = everywhere (λ j l. (h : ℕ) → l.ended ≡ Some h → (e : Row k.Op) → e ∈ drop h n.rows → e.by ≢ j) c life n.lives
        (g.after_end c) (λ j _. g.after_end j);
  }
    where
      life : Life k
      life = performing k o (n.lives c)

      after : Net k
      after = after_performing k c o n

      parts : (x : A) → x ∈ typed_in k (performing k o (n.lives c)).deeds → x ∈ typed_in k (n.lives c).deeds ⊎ x ∈ k.puts o
      parts x m = mem_parts (typed_in k (n.lives c).deeds) (mem_of (typed_snoc k (n.lives c).deeds (record { op = o; before = (n.lives c).replica.text })) m)

  in_drop_snoc : {X : Type 0} (h : ℕ) (xs : List X) (y x : X) → x ∈ drop h (xs ++ y ∷ []) → x ∈ drop h xs ⊎ (x ≡ y)
  in_drop_snoc zero xs y x m = ⊎_elim inl (λ q. inr (Memᴰ.eq_of_singleton q)) (mem_parts xs m)
  in_drop_snoc (suc h) [] y x m = absurd (Memᴰ.not-nil (mem_of (drop_all h [] (omega arith)) m))
  in_drop_snoc (suc h) (z ∷ xs) y x m = in_drop_snoc h xs y x m

  pub lettered_takes : (n : Net k) → Lettered k n → (c : ℕ) (m : Submission k.Op) (rest : List (Message k.Op)) → c < n.connections →
      (n.lives c).ended ≡ None → k.site (entry_of k c m n).op ≡ (n.lives c).site →
      ((x : A) → x ∈ k.puts (entry_of k c m n).op → x ∈ typed_in k (n.lives c).deeds) → Lettered k (after_taking k c m rest n)
  lettered_takes n g c m rest u not_ended i t = record {
    typed = λ j x p. g.typed j x (subst (λ ds. x ∈ typed_in k ds) (same j).deeds p);
    apart = λ j d ne x p q. g.apart j d ne x (subst (λ ds. x ∈ typed_in k ds) (same j).deeds p) (subst (λ ds. x ∈ typed_in k ds) (same d).deeds q);
    owned = λ e p. ⊎_elim {C = Owned e} (λ q. let r = g.owned e q in
        (r.0, r.1 ∙ sym (same e.by).site, (λ x s. subst (λ ds. x ∈ typed_in k ds) (sym (same e.by).deeds) (r.2 x s))))
        (λ q. subst Owned (sym q) (u, i ∙ sym (same c).site, (λ x s. subst (λ ds. x ∈ typed_in k ds) (sym (same c).deeds) (t x s))))
        (in_drop_snoc 0 n.rows (entry_of k c m n) e p);
    after_end = everywhere (λ j l. (h : ℕ) → l.ended ≡ Some h → (e : Row k.Op) → e ∈ drop h (n.rows ++ entry_of k c m n ∷ []) → e.by ≢ j)
        c _ n.lives (λ h y e p. absurd (cc))
        (λ j ne h y e p. ⊎_elim (g.after_end j h y e) (λ q z. ne (sym z ∙ ap (λ (r : Row k.Op). r.by) q)) (in_drop_snoc h n.rows (entry_of k c m n) e p));
  }
    where
      Owned : Row k.Op → Type 0
      Owned e = (e.by < n.connections) × (k.site e.op ≡ ((after_taking k c m rest n).lives e.by).site) ×
          ((x : A) → x ∈ k.puts e.op → x ∈ typed_in k ((after_taking k c m rest n).lives e.by).deeds)

      same : (j : ℕ) → Owes n j ((after_taking k c m rest n).lives j)
      same = everywhere (λ j l. Owes n j l) c _ n.lives
          (record { deeds = refl; site = refl; after_end = g.after_end c }) (λ j _. owes n g j)

  pub lettered_joins : (n : Net k) → Lettered k n → (p i : ℕ) → Lettered k (after_joining k p i n)
  unfolding puts_all
  lettered_joins n g p i = record {
    typed = either (λ j l. (x : A) → x ∈ typed_in k l.deeds → x ∈ n.typed) (λ x m. absurd (Memᴰ.not-nil m)) (λ j _. g.typed j);
    apart = λ c d ne x m o. either (λ j l. j ≢ d → x ∈ typed_in k l.deeds → ⊥) (λ _ m. absurd (Memᴰ.not-nil m))
        (λ c _ ne m. either (λ d l. c ≢ d → x ∈ typed_in k l.deeds → ⊥) (λ _ q. absurd (Memᴰ.not-nil q)) (λ d _ ne q. g.apart c d ne x m q) d ne o) c ne m;
    owned = λ e m. let r = g.owned e m in (
      omega (arith, r.0),
      either (λ j l. e.by ≡ j → k.site e.op ≡ l.site) (λ q. absurd (omega (arith, r.0))) (λ j _ q. r.1 ∙ ap (λ i. (n.lives i).site) q) e.by refl,
      (λ x s. either (λ j l. e.by ≡ j → x ∈ typed_in k l.deeds) (λ q. absurd (omega (arith, r.0)))
          (λ j _ q. subst (λ i. x ∈ typed_in k (n.lives i).deeds) q (r.2 x s)) e.by refl),
    );
    after_end = either (λ j l. (h : ℕ) → l.ended ≡ Some h → (e : Row k.Op) → e ∈ drop h n.rows → e.by ≢ j) (λ h y. absurd (cc)) (λ j _. g.after_end j);
  }
    where
      either : (P : ℕ → Life k → Type 0) → P n.connections (newborn k p i n.server.text (length n.server.history)) →
          ((j : ℕ) → j ≢ n.connections → P j (n.lives j)) → (j : ℕ) → P j ((after_joining k p i n).lives j)
      either P = everywhere P n.connections (newborn k p i n.server.text (length n.server.history)) n.lives
