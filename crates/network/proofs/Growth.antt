-- Along a path the history only grows, and so do what was performed in a life and how much of the history it has seen; a copy that it once had it still has.
use Rattle.std.proofs.Common.{◌≡◌, ℕ, ◌+◌, ◌<◌, ◌≤◌, ◌⊎◌, true, List, [], ◌∷◌, length, take, drop, ◌==◌, refl, sym, ap, ◌∙◌, subst, inl, inr, ⊎_elim, arith}
use Rattle.std.proofs.lemmas.Bool.{cond_both, cases_lt}
use Rattle.std.proofs.lemmas.List.{length-map, take-append-drop, take_all}
use Rattle.operation.specs.Laws.{Kind, Laws}
use Rattle.client.specs.Replicas.{Replica}
use Rattle.server.specs.Sessions.{Seat, free, heard}
use Rattle.network.specs.Runs.{Row, Life, Net, at, ended_at, performing, with_queue, seeing, reporting, entry_of, Connected, Step, performs, reports, takes, hears, sees, joins, ends, crashes, here, onward, Path, Reachable}
use Rattle.network.specs.OneRecord.{taken_of}
use Rattle.network.proofs.Invariants.{Kept, Good}
use Rattle.network.proofs.Lists.{Front, front_same, front_more, front_on, front_take, length_front}
use Rattle.network.proofs.Grid.{taken_append, taken_snoc_other}
use Rattle.network.proofs.Copies.{told_connected}
use Rattle.network.proofs.Seats.{everywhere, where_taken}
use Rattle.network.proofs.Paths.{reach_path}
use Rattle.network.proofs.Nets.{good, kept_step}

pub taken_front : {O : Type 0} (c : ℕ) {xs ys : List (Row O)} → Front xs ys → taken_of c xs ≤ taken_of c ys
taken_front c {xs} f = omega (arith, ap (taken_of c) f.whole, taken_append c xs f.more)

pub taken_take : {O : Type 0} (c i : ℕ) (rows : List (Row O)) → taken_of c (take i rows) ≤ taken_of c rows
taken_take c i rows = omega (arith, ap (taken_of c) (take-append-drop i rows), taken_append c (take i rows) (drop i rows))

module _ {A : Type 0} (k : Kind A) where
  -- a life later on
  pub record Later (a b : Life k) : Type 0 where
    pub client : b.client ≡ a.client
    pub deeds : Front a.deeds b.deeds
    pub revision : a.replica.revision ≤ b.replica.revision

  -- a net later on. A life that has begun in between has seen all that the history had before; of a connection that has ended nothing more is taken
  pub record Grown (n m : Net k) : Type 0 where
    pub connections : n.connections ≤ m.connections
    pub rows : Front n.rows m.rows
    pub lives : (c : ℕ) → c < n.connections → Later (n.lives c) (m.lives c)
    pub newborns : (c : ℕ) → n.connections ≤ c → c < m.connections → length n.rows ≤ (m.lives c).replica.revision
    pub over : (c : ℕ) → c < n.connections → (Connected k n c → ⊥) → (Connected k m c → ⊥) × (taken_of c m.rows ≡ taken_of c n.rows)

  later_same : (a : Life k) → Later a a
  later_same a = record { client = refl; deeds = front_same a.deeds; revision = omega arith }

  later_on : {a b c : Life k} → Later a b → Later b c → Later a c
  later_on f g = record { client = g.client ∙ f.client; deeds = front_on f.deeds g.deeds; revision = omega (arith, f.revision, g.revision) }

  pub grown_same : (n : Net k) → Grown n n
  grown_same n = record {
    connections = omega arith;
    rows = front_same n.rows;
    lives = λ c u. later_same (n.lives c);
    newborns = λ c u v. absurd (omega arith);
    over = λ c u e. (e, refl);
  }

  pub grown_on : (n m o : Net k) → Grown n m → Grown m o → Grown n o
  grown_on n m o f g = record {
    connections = omega (arith, f.connections, g.connections);
    rows = front_on f.rows g.rows;
    lives = λ c u. later_on (f.lives c u) (g.lives c (omega (arith, f.connections)));
    newborns = λ c u v. ⊎_elim
        (λ (w : c < m.connections). omega (arith, f.newborns c u w, (g.lives c w).revision))
        (λ w. omega (arith, length_front f.rows, g.newborns c w v)) (cases_lt c m.connections);
    over = λ c u e. let a = f.over c u e in let b = g.over c (omega (arith, f.connections)) a.0 in (b.0, b.1 ∙ a.1);
  }

  -- where nobody joins and nothing is taken
  still : (n m : Net k) → m.connections ≡ n.connections → m.rows ≡ n.rows → ((c : ℕ) → Later (n.lives c) (m.lives c)) → ((c : ℕ) → Connected k m c → Connected k n c) →
      Grown n m
  still n m e r l s = record {
    connections = omega arith;
    rows = subst (λ l. Front n.rows l) (sym r) (front_same n.rows);
    lives = λ c u. l c;
    newborns = λ c u v. absurd (omega arith);
    over = λ c u f. ((λ h. f (s c h)), ap (taken_of c) r);
  }

  -- a life or a seat that is changed at one place
  changed : (n : Net k) (c : ℕ) (l : Life k) → Later (n.lives c) l → (j : ℕ) → Later (n.lives j) (at c l n.lives j)
  changed n c l h = everywhere (λ j. Later (n.lives j)) c l n.lives h (λ j ne. later_same (n.lives j))

  seated : (n : Net k) (c : ℕ) (s : Seat k.Op) → (s.connected ≡ true → Connected k n c) → (j : ℕ) → (at c s n.server.seats j).connected ≡ true → Connected k n j
  seated n c s h = everywhere (λ j (s : Seat k.Op). s.connected ≡ true → Connected k n j) c s n.server.seats h (λ j ne e. e)

  saw : (c : ℕ) (e : Row k.Op) (l : Life k) → Later l (seeing k c e l)
  saw c e l = record {
    client = refl;
    deeds = front_same l.deeds;
    revision = cond_both (e.by == c) _ _ (λ (r : Replica k). l.replica.revision ≤ r.revision)
        (λ _. omega arith) (λ _. omega arith);
  }

  pub grown_step : (n m : Net k) → Good k n → Step k n m → Grown n m
  grown_step n _ g (performs c o u s f x a) = still n _ refl refl (changed n c (performing k o (n.lives c))
      (record { client = refl; deeds = front_more _ _; revision = omega arith })) (λ c h. h)
  grown_step n _ g (reports c u) = still n _ refl refl (changed n c (reporting k (n.lives c))
      (record { client = refl; deeds = front_same _; revision = omega arith })) (λ c h. h)
  grown_step n _ g (takes c m rest u q) = record {
    connections = omega arith;
    rows = front_more n.rows (entry_of k c m n ∷ []);
    lives = λ j _. changed n c (with_queue k rest (n.lives c)) (record { client = refl; deeds = front_same _; revision = omega arith }) j;
    newborns = λ j v w. absurd (omega arith);
    over = λ j v e. (
      (λ h. e (where_taken k (λ j s l. s.connected ≡ true → Connected k n j) n c _ _ (n.lives c) (λ h. h) (λ j ne h. sym (told_connected k _ (n.server.seats j)) ∙ h) j h)),
      taken_snoc_other j n.rows (entry_of k c m n) (λ b. e (subst (Connected k n) b u)),
    );
  }
  grown_step n _ g (hears c r rest u q) = still n _ refl refl (changed n c (with_queue k rest (n.lives c))
      (record { client = refl; deeds = front_same _; revision = omega arith })) (seated n c (heard r (n.server.seats c)) (λ h. h))
  grown_step n _ g (sees c e before after u q f s) = still n _ refl refl (changed n c (seeing k c e (n.lives c)) (saw c e (n.lives c))) (λ c h. h)
  grown_step n _ g (joins p i a b) = record {
    connections = omega arith;
    rows = front_same n.rows;
    lives = everywhere (λ j l. j < n.connections → Later (n.lives j) l) n.connections _ n.lives (λ u. absurd (omega arith)) (λ j ne u. later_same (n.lives j));
    newborns = everywhere (λ j (l : Life k). n.connections ≤ j → j < n.connections + 1 → length n.rows ≤ l.replica.revision) n.connections _ n.lives
        (λ u v. omega (arith, ap length g.recorded.history, length-map n.rows (λ (r : Row k.Op). r.op))) (λ j ne u v. absurd (ne (omega arith)));
    over = λ j u e. (
      everywhere (λ j (s : Seat k.Op). j < n.connections → (Connected k n j → ⊥) → s.connected ≡ true → ⊥) n.connections _ n.server.seats
          (λ u. absurd (omega arith)) (λ j ne u e. e) j u e,
      refl,
    );
  }
  grown_step n _ g (ends c u) = still n _ refl refl (changed n c (ended_at k (length n.server.history) (n.lives c))
      (record { client = refl; deeds = front_same _; revision = omega arith })) (seated n c free (λ h. u))
  grown_step n _ g crashes = still n _ refl refl
      (λ c. record { client = refl; deeds = front_same _; revision = omega arith }) (λ c h. absurd (cc))

  pub grown : (l : Laws k) (n m : Net k) → Reachable k n → Path k n m → Grown n m
  grown l n _ r here = grown_same n
  grown l n o r (onward {m} p s w) = grown_on n m o (grown l n m r p) (grown_step m o (good k l m (reach_path k r p)) s)

  -- a copy that a life once had it still has
  pub kept_path : (l : Laws k) {n m : Net k} → Reachable k n → Path k n m → (c : ℕ) → c < n.connections → (s : ℕ) (p : List k.Op) (t : k.Text) →
      Kept k c n.rows (n.server.seats c) (n.lives c) s p t → Kept k c m.rows (m.server.seats c) (m.lives c) s p t
  kept_path l r here c h s p t y = y
  kept_path l {n} r (onward {m} q u _) c h s p t y =
      let f = grown l n m r q in kept_step k l _ _ (good k l _ (reach_path k r q)) u c (omega (arith, f.connections)) s p t (kept_path l r q c h s p t y)

  -- what a later life of the same client has seen of an earlier connection's entries is all there are
  abbrev pub Elder : Net k → Type 0
  Elder n = (b c : ℕ) → b < c → c < n.connections → (n.lives b).client ≡ (n.lives c).client → taken_of b (take (n.lives c).replica.revision n.rows) ≡ taken_of b n.rows

  -- where somebody joins nothing is taken
  joined_or_same : (n m : Net k) → Step k n m → (m.connections ≡ n.connections) ⊎ (m.rows ≡ n.rows)
  joined_or_same n _ (performs c o u s f x a) = inl refl
  joined_or_same n _ (reports c u) = inl refl
  joined_or_same n _ (takes c m rest u q) = inl refl
  joined_or_same n _ (hears c r rest u q) = inl refl
  joined_or_same n _ (sees c e before after u q f s) = inl refl
  joined_or_same n _ (joins p i a b) = inr refl
  joined_or_same n _ (ends c u) = inl refl
  joined_or_same n _ crashes = inl refl

  elder_step : (n m : Net k) → Good k n → Step k n m → Elder n → Elder m
  elder_step n m g s h b c u v e = ⊎_elim old young (cases_lt c n.connections)
    where
      f : Grown n m
      f = grown_step n m g s

      all : length m.rows ≤ (m.lives c).replica.revision → taken_of b (take (m.lives c).replica.revision m.rows) ≡ taken_of b m.rows
      all l = ap (taken_of b) (take_all (m.lives c).replica.revision m.rows l)

      old : c < n.connections → taken_of b (take (m.lives c).replica.revision m.rows) ≡ taken_of b m.rows
      old w = let q = sym (f.lives b (omega arith)).client ∙ e ∙ (f.lives c w).client in
          omega (
            arith,
            h b c u w q,
            (f.over b (omega arith) (λ z. g.seated.last b c z u w (sym q))).1,
            taken_take b (m.lives c).replica.revision m.rows,
            taken_front b (front_take (n.lives c).replica.revision (m.lives c).replica.revision (f.lives c w).revision f.rows),
          )

      young : n.connections ≤ c → taken_of b (take (m.lives c).replica.revision m.rows) ≡ taken_of b m.rows
      young w = ⊎_elim (λ (z : m.connections ≡ n.connections). absurd (omega arith)) (λ z. all (omega (arith, ap length z, f.newborns c w v))) (joined_or_same n m s)

  pub elder : (l : Laws k) (n : Net k) → Reachable k n → Elder n
  elder l _ here = λ b c u v e. refl
  elder l o (onward {m} p s w) = elder_step m o (good k l m p) s (elder l m p)
