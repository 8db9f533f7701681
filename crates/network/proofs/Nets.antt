-- Every net that is reached is good: its record, its connections, its letters and each life. And what a life once had it still has after each step.
use Rattle.std.proofs.Common.{◌≡◌, ℕ, ◌+◌, ◌<◌, List, [], ◌∷◌, ◌++◌, length, None, ◌≢◌, refl, sym, ap, subst, ◌∙◌, arith}
use Rattle.std.proofs.lemmas.List.{length-map, map_push}
use mathlib.Core.List.Memᴰ
use Rattle.operation.specs.declared.entry.Submission.{Submission}
use Rattle.operation.specs.Letters.{◌∈◌, Once, Apart}
use Rattle.operation.specs.Laws.{Kind, Laws, apply_all}
use Rattle.server.specs.Sessions.{Seat, free, joined_at, heard, told}
use Rattle.network.specs.declared.message.Message.{Message}
use Rattle.network.specs.declared.message.Message.TheVariants as message
use Rattle.network.specs.Runs.{Row, ops, Life, Net, Connected, Current, newborn, ended_at, performing, with_queue, seeing, reporting, after_performing, after_taking, entry_of, start, Step, performs, reports, takes, hears, sees, joins, ends, crashes, here, onward, Reachable, count_of, at, after_joining}
use Rattle.network.specs.OneRecord.{taken_of}
use Rattle.network.proofs.Invariants.{put_in, typed_in, puts_all, replay, Fitting, Alive, Kept, Recorded, Lettered, Good}
use Rattle.network.proofs.Grid.{taken_other}
use Rattle.network.proofs.Letters.{put_in_by, put_in_snoc, replay_snoc, fitting_append}
use Rattle.network.proofs.Seats.{everywhere, everywhere_both, where_taken, seated_start, seated_step, lettered_start, lettered_performs, lettered_reports, lettered_takes, lettered_hears, lettered_sees, lettered_joins, lettered_ends, lettered_crashes}
use Rattle.network.proofs.Lives.{alive_performs, alive_reports, alive_hears, alive_takes_own, alive_takes_other, alive_sees, alive_joins, alive_ends, alive_head}
use Rattle.network.proofs.Copies.{kept_performs, kept_reports, kept_hears, kept_takes_own, kept_takes_other, kept_sees, kept_ends}

module _ {A : Type 0} (k : Kind A) (l : Laws k) where
  -- of a good net
  pub recorded_length : (n : Net k) → Recorded k n → length n.server.history ≡ length n.rows
  recorded_length n g = ap length g.history ∙ length-map n.rows (λ (r : Row k.Op). r.op)

  -- the place of the entry is how many there were before
  pub where_entered : (P : ℕ → Seat k.Op → Life k → Type 0) (n : Net k) → Recorded k n → (c : ℕ) (s : Seat k.Op) (o : k.Op) (v : Life k) → P c s v →
      ((j : ℕ) → j ≢ c → P j (told (record { place = length n.rows; op = o }) (n.server.seats j)) (n.lives j)) →
      (j : ℕ) → P j (at c s (λ i. told (record { place = length n.server.history; op = o }) (n.server.seats i)) j) (at c v n.lives j)
  where_entered P n g c s o v a b = where_taken k P n c s (record { place = length n.server.history; op = o }) v a
      (λ j ne. subst (λ z. P j (told (record { place = z; op = o }) (n.server.seats j)) (n.lives j)) (sym (recorded_length n g)) (b j ne))

  pub taken_none : (c : ℕ) (rows : List (Row k.Op)) → ((e : Row k.Op) → e ∈ rows → e.by ≢ c) → taken_of c rows ≡ 0
  unfolding count_of
  taken_none c [] h = refl
  taken_none c (e ∷ es) h = taken_other c e es (h e (Memᴰ.head refl)) ∙ taken_none c es (λ f m. h f (Memᴰ.tail m))

  -- nobody else has the letters of an entry
  pub not_typed : (n : Net k) → Lettered k n → (c : ℕ) (e : Row k.Op) → e ∈ n.rows → e.by ≢ c → Apart (typed_in k (n.lives c).deeds) (k.puts e.op)
  not_typed n g c e m ne x p q = g.apart e.by c ne x ((g.owned e m).2 x q) p

  pub put_in_typed : (n : Net k) → Lettered k n → (x : A) → x ∈ put_in k n.rows → x ∈ n.typed
  put_in_typed n g x m = let r = put_in_by k n.rows m in g.typed r.0.by x ((g.owned r.0 r.1).2 x r.2)

  -- RECORDED: as many entries as before
  recorded_still : (n : Net k) → Recorded k n → (seats : ℕ → Seat k.Op) (lives : ℕ → Life k) (connections : ℕ) (typed : List A) →
      Recorded k (record {
        server = record { text = n.server.text; history = n.server.history; seats = seats };
        rows = n.rows;
        lives = lives;
        connections = connections;
        typed = typed;
      })
  recorded_still n g seats lives connections typed = record { history = g.history; text = g.text; fitting = g.fitting; once = g.once }

  -- one more
  recorded_takes : (n : Net k) → Recorded k n → (c : ℕ) (m : Submission k.Op) (rest : List (Message k.Op)) → k.Fits (entry_of k c m n).op (replay k n.rows) →
      Once (put_in k n.rows ++ k.puts (entry_of k c m n).op) → Recorded k (after_taking k c m rest n)
  unfolding Fitting
  recorded_takes n g c m rest f o = record {
    history = ap (λ h. h ++ (entry_of k c m n).op ∷ []) g.history ∙ sym (map_push (λ (r : Row k.Op). r.op) n.rows (entry_of k c m n));
    text = ap (k.apply (entry_of k c m n).op) g.text ∙ sym (replay_snoc k n.rows (entry_of k c m n));
    fitting = subst (λ os. Fitting k os k.empty) (sym (map_push (λ (r : Row k.Op). r.op) n.rows (entry_of k c m n)))
        (fitting_append k (ops n.rows) ((entry_of k c m n).op ∷ []) k.empty g.fitting (f, tt));
    once = subst Once (sym (put_in_snoc k n.rows (entry_of k c m n))) o;
  }

  pub good_start : Good k (start k)
  unfolding Fitting puts_all apply_all Once
  good_start = record {
    recorded = record { history = refl; text = refl; fitting = tt; once = tt };
    seated = seated_start k;
    lettered = lettered_start k;
    alive = λ c h. absurd (omega arith);
  }

  module _ (n : Net k) (g : Good k n) where
    -- the entry that the server takes
    pub taken_entry : (c : ℕ) (m : Submission k.Op) (rest : List (Message k.Op)) → Connected k n c → (n.lives c).queue ≡ message.Operation m ∷ rest →
        k.Fits (entry_of k c m n).op (replay k n.rows) × (k.site (entry_of k c m n).op ≡ (n.lives c).site) × Once (put_in k n.rows ++ k.puts (entry_of k c m n).op) ×
        ((x : A) → x ∈ k.puts (entry_of k c m n).op → x ∈ typed_in k (n.lives c).deeds)
    taken_entry c m rest u q = alive_head k l c n.rows (n.server.seats c) (n.lives c) (g.alive c (g.seated.given c u)) g.recorded.fitting g.recorded.once u
        (not_typed n g.lettered c) m rest q

    -- is of another site than other lives that go on
    pub entry_site : (c : ℕ) (m : Submission k.Op) (rest : List (Message k.Op)) → Connected k n c → (n.lives c).queue ≡ message.Operation m ∷ rest →
        (j : ℕ) → j < n.connections → j ≢ c → (n.lives j).ended ≡ None → k.site (entry_of k c m n).op ≢ (n.lives j).site
    entry_site c m rest u q j h ne e z = g.seated.sites c j u (g.seated.unended j h e) (λ y. ne (sym y)) (sym (taken_entry c m rest u q).1 ∙ z)

    alive_over : (c : ℕ) → c < n.connections → Alive k c n.rows free (ended_at k (length n.server.history) (n.lives c))
    alive_over c h = subst (λ z. Alive k c n.rows free (ended_at k z (n.lives c))) (sym (recorded_length n g.recorded))
        (alive_ends k l c n.rows (n.server.seats c) (n.lives c) (g.alive c h))

    -- where only a life changes
    alive_at : (c : ℕ) (v : Life k) → (c < n.connections → Alive k c n.rows (n.server.seats c) v) →
        (j : ℕ) → j < n.connections → Alive k j n.rows (n.server.seats j) (at c v n.lives j)
    alive_at c v h = everywhere (λ j v. j < n.connections → Alive k j n.rows (n.server.seats j) v) c v n.lives h (λ j _. g.alive j)

    good_joins : (p i : ℕ) → ((c : ℕ) → Connected k n c → (n.lives c).site ≢ i) → ((c : ℕ) → Connected k n c → (n.lives c).client ≢ p) →
        Good k (after_joining k p i n)
    good_joins p i a b = record {
      recorded = recorded_still n g.recorded _ _ _ _;
      seated = seated_step k n _ g.seated (joins p i a b);
      lettered = lettered_joins k n g.lettered p i;
      alive = everywhere_both (λ j s v. j < n.connections + 1 → Alive k j n.rows s v) n.connections (joined_at (length n.server.history)) n.server.seats
          (newborn k p i n.server.text (length n.server.history)) n.lives
          (λ _. subst (λ z. Alive k n.connections n.rows (joined_at z) (newborn k p i n.server.text z)) (sym (recorded_length n g.recorded))
          (subst (λ t. Alive k n.connections n.rows (joined_at (length n.rows)) (newborn k p i t (length n.rows))) (sym g.recorded.text)
          (alive_joins k l n.connections p i n.rows g.recorded.once
          (taken_none n.connections n.rows (λ e m z. let h = (g.lettered.owned e m).0 in omega arith)))))
          (λ j ne h. g.alive j (omega arith));
    }

    good_performs : (c : ℕ) (o : k.Op) → Current k n c → k.site o ≡ (n.lives c).site → k.Fits o (n.lives c).replica.text → Once (k.puts o) →
        Apart (k.puts o) n.typed → Good k (after_performing k c o n)
    good_performs c o u s f x a = record {
      recorded = recorded_still n g.recorded _ _ _ _;
      seated = seated_step k n _ g.seated (performs c o u s f x a);
      lettered = lettered_performs k n g.lettered c o a;
      alive = alive_at c (performing k o (n.lives c)) (λ h. alive_performs k l c n.rows (n.server.seats c) (n.lives c) (g.alive c h) o s f x
          (λ y p q. a y p (put_in_typed n g.lettered y q)) (λ y p q. a y p (g.lettered.typed c y q)));
    }

    good_takes : (c : ℕ) (m : Submission k.Op) (rest : List (Message k.Op)) → Connected k n c → (n.lives c).queue ≡ message.Operation m ∷ rest →
        Good k (after_taking k c m rest n)
    good_takes c m rest u q = record {
      recorded = recorded_takes n g.recorded c m rest (taken_entry c m rest u q).0 (taken_entry c m rest u q).2;
      seated = seated_step k n _ g.seated (takes c m rest u q);
      lettered = lettered_takes k n g.lettered c m rest (g.seated.given c u) ((g.alive c (g.seated.given c u)).unended u)
          (taken_entry c m rest u q).1 (taken_entry c m rest u q).3;
      alive = where_entered (λ j s v. j < n.connections → Alive k j (n.rows ++ entry_of k c m n ∷ []) s v) n g.recorded c _ _ _
          (λ h. alive_takes_own k l c n.rows (n.server.seats c) (n.lives c) (g.alive c h) u m rest q)
          (λ j ne h. alive_takes_other k l j n.rows (n.server.seats j) (n.lives j) (g.alive j h) (entry_of k c m n) (λ z. ne (sym z)) (entry_site c m rest u q j h ne));
    }

  pub good_step : (n m : Net k) → Good k n → Step k n m → Good k m
  good_step n _ g (performs c o u s f x a) = good_performs n g c o u s f x a
  good_step n _ g (reports c u) = record {
    recorded = recorded_still n g.recorded _ _ _ _;
    seated = seated_step k n _ g.seated (reports c u);
    lettered = lettered_reports k n g.lettered c;
    alive = alive_at n g c (reporting k (n.lives c)) (λ h. alive_reports k l c n.rows (n.server.seats c) (n.lives c) (g.alive c h));
  }
  good_step n _ g (takes c m rest u q) = good_takes n g c m rest u q
  good_step n _ g (hears c r rest u q) = record {
    recorded = recorded_still n g.recorded _ _ _ _;
    seated = seated_step k n _ g.seated (hears c r rest u q);
    lettered = lettered_hears k n g.lettered c r rest;
    alive = everywhere_both (λ j s v. j < n.connections → Alive k j n.rows s v) c (heard r (n.server.seats c)) n.server.seats (with_queue k rest (n.lives c)) n.lives
        (λ h. alive_hears k l c n.rows (n.server.seats c) (n.lives c) (g.alive c h) r rest q) (λ j _. g.alive j);
  }
  good_step n _ g (sees c e before after u q f s) = record {
    recorded = recorded_still n g.recorded _ _ _ _;
    seated = seated_step k n _ g.seated (sees c e before after u q f s);
    lettered = lettered_sees k n g.lettered c e;
    alive = alive_at n g c (seeing k c e (n.lives c)) (λ h. alive_sees k l c n.rows (n.server.seats c) (n.lives c) (g.alive c h) g.recorded.fitting g.recorded.once
        (not_typed n g.lettered c) e before after q f s);
  }
  good_step n _ g (joins p i a b) = good_joins n g p i a b
  good_step n _ g (ends c u) = record {
    recorded = recorded_still n g.recorded _ _ _ _;
    seated = seated_step k n _ g.seated (ends c u);
    lettered = lettered_ends k n g.lettered c (omega (arith, recorded_length n g.recorded));
    alive = everywhere_both (λ j s v. j < n.connections → Alive k j n.rows s v) c free n.server.seats (ended_at k (length n.server.history) (n.lives c)) n.lives
        (λ h. alive_over n g c h) (λ j _. g.alive j);
  }
  good_step n _ g crashes = record {
    recorded = recorded_still n g.recorded _ _ _ _;
    seated = seated_step k n _ g.seated crashes;
    lettered = lettered_crashes k n g.lettered (omega (arith, recorded_length n g.recorded));
    alive = alive_over n g;
  }

  pub good : (n : Net k) → Reachable k n → Good k n
  good _ here = good_start
  good n (onward r s _) = good_step _ n (good _ r) s

  -- WHAT A LIFE ONCE HAD it still has, where j's seat and life, and the history, become these
  abbrev Still : Net k → List (Row k.Op) → ℕ → List k.Op → k.Text → ℕ → Seat k.Op → Life k → Type 0
  Still n rows s p t j w v = j < n.connections → Kept k j n.rows (n.server.seats j) (n.lives j) s p t → Kept k j rows w v s p t

  kept_over : (n : Net k) → Good k n → (s : ℕ) (p : List k.Op) (t : k.Text) (c : ℕ) →
      Still n n.rows s p t c free (ended_at k (length n.server.history) (n.lives c))
  kept_over n g s p t c h y = subst (λ z. Kept k c n.rows free (ended_at k z (n.lives c)) s p t) (sym (recorded_length n g.recorded))
      (kept_ends k c n.rows (n.server.seats c) (n.lives c) s p t y)

  kept_takes : (n : Net k) → Good k n → (d : ℕ) (m : Submission k.Op) (rest : List (Message k.Op)) → Connected k n d →
      (n.lives d).queue ≡ message.Operation m ∷ rest → (s : ℕ) (p : List k.Op) (t : k.Text) (c : ℕ) →
      Still n (n.rows ++ entry_of k d m n ∷ []) s p t c ((after_taking k d m rest n).server.seats c) ((after_taking k d m rest n).lives c)
  kept_takes n g d m rest u q s p t = where_entered (Still n (n.rows ++ entry_of k d m n ∷ []) s p t) n g.recorded d _ _ _
      (λ h y. kept_takes_own k d n.rows (n.server.seats d) (n.lives d) s p t y (g.alive d h) u m rest q)
      (λ j ne h y. kept_takes_other k j n.rows (n.server.seats j) (n.lives j) s p t y (g.alive j h) (entry_of k d m n) (λ z. ne (sym z))
      (entry_site n g d m rest u q j h ne))

  -- the same where only a life changes
  kept_at : (n : Net k) (s : ℕ) (p : List k.Op) (t : k.Text) (d : ℕ) (v : Life k) → Still n n.rows s p t d (n.server.seats d) v →
      (c : ℕ) → Still n n.rows s p t c (n.server.seats c) (at d v n.lives c)
  kept_at n s p t d v h = everywhere (λ j. Still n n.rows s p t j (n.server.seats j)) d v n.lives h (λ j _ _ y. y)

  pub kept_step : (n m : Net k) → Good k n → Step k n m → (c : ℕ) → c < n.connections → (s : ℕ) (p : List k.Op) (t : k.Text) →
      Kept k c n.rows (n.server.seats c) (n.lives c) s p t → Kept k c m.rows (m.server.seats c) (m.lives c) s p t
  kept_step n _ g (performs d o u i f x a) c h s p t =
      kept_at n s p t d (performing k o (n.lives d)) (λ _ y. kept_performs k d n.rows (n.server.seats d) (n.lives d) s p t y o) c h
  kept_step n _ g (reports d u) c h s p t =
      kept_at n s p t d (reporting k (n.lives d)) (λ _. kept_reports k d n.rows (n.server.seats d) (n.lives d) s p t) c h
  kept_step n _ g (takes d m rest u q) c h s p t = kept_takes n g d m rest u q s p t c h
  kept_step n _ g (hears d r rest u q) c h s p t = everywhere_both (Still n n.rows s p t) d (heard r (n.server.seats d)) n.server.seats
      (with_queue k rest (n.lives d)) n.lives (λ _ y. kept_hears k d n.rows (n.server.seats d) (n.lives d) s p t y r rest q) (λ j _ _ y. y) c h
  kept_step n _ g (sees d e before after u q f b) c h s p t =
      kept_at n s p t d (seeing k d e (n.lives d)) (λ _ y. kept_sees k d n.rows (n.server.seats d) (n.lives d) s p t y e) c h
  kept_step n _ g (joins q i a b) c h s p t = everywhere_both (Still n n.rows s p t) n.connections (joined_at (length n.server.history)) n.server.seats
      (newborn k q i n.server.text (length n.server.history)) n.lives (λ z. absurd (omega arith)) (λ j _ _ y. y) c h
  kept_step n _ g (ends d u) c h s p t = everywhere_both (Still n n.rows s p t) d free n.server.seats (ended_at k (length n.server.history) (n.lives d)) n.lives
      (kept_over n g s p t d) (λ j _ _ y. y) c h
  kept_step n _ g crashes c h s p t = kept_over n g s p t c h
