-- A copy of the history that a life once had it still has after each step, and what was pending in it is still to come first.
use Rattle.std.proofs.Common.{◌≡◌, ℕ, ◌≤◌, ⊎_elim, true, List, [], ◌∷◌, ◌++◌, length, take, drop, Some, None, Option, ◌≢◌}
use Rattle.std.proofs.Common.{sym, refl, ap, ◌∙◌, subst, arith, le_trans, append_assoc}
use Rattle.std.proofs.lemmas.Bool.{false≢true, cond_both, cond-true}
use Rattle.std.proofs.lemmas.List.{append-nil, length-append, take-append-le, drop-append-le, take_all}
use mathlib.Core.List.Memᴰ
use Rattle.operation.specs.declared.entry.Entry.{Entry}
use Rattle.operation.specs.declared.entry.Submission.{Submission}
use Rattle.operation.specs.Letters.{◌∈◌}
use Rattle.operation.specs.Transform.{Passed}
use Rattle.operation.specs.Laws.{Kind}
use Rattle.server.specs.Sessions.{Seat, free, heard, told, sender, arrival}
use Rattle.network.specs.declared.message.Message.{Message}
use Rattle.network.specs.declared.message.Message.TheVariants as message
use Rattle.network.specs.Runs.{Row, Life, first_end, performing, with_queue, reporting, seeing, ended_at}
use Rattle.network.proofs.Invariants.{typed_in, Ran, Came, run, desk, meet, over, Said, Heads, Match, Grid, Copy, horizon, horizon_of, Future, Kept, Alive}
use Rattle.network.proofs.Letters.{mem_left, mem_parts, typed_snoc}
use Rattle.network.proofs.Grid.{through_append, run_snoc_own, run_snoc_other, desk_more_queue, desk_more_revision, desk_more_concurrent, said_higher}
use Rattle.network.proofs.Matches.{match_own_snoc, match_other_snoc}

module _ {A : Type 0} (k : Kind A) where
  -- COPIES
  -- what comes to a life when an entry comes to the history
  abbrev pub come : Option ℕ → Row k.Op → List (Row k.Op)
  come None e = e ∷ []
  come (Some h) e = []

  module _ (rows : List (Row k.Op)) (e : Row k.Op) (s : ℕ) where
    pub rest_more : (ended : Option ℕ) → s ≤ horizon k (length rows) ended → horizon k (length rows) ended ≤ length rows →
        drop s (take (horizon k (length (rows ++ e ∷ [])) ended) (rows ++ e ∷ [])) ≡ drop s (take (horizon k (length rows) ended) rows) ++ come ended e
    rest_more None a b =
        rw (take_all (length (rows ++ e ∷ [])) (rows ++ e ∷ []) (omega arith), take_all (length rows) rows (omega arith)) (drop-append-le s rows (e ∷ []) a)
    rest_more (Some h) a b = rw (take-append-le h rows (e ∷ []) b, append-nil (drop s (take h rows))) refl

    horizon_more : (ended : Option ℕ) → s ≤ horizon k (length rows) ended → horizon k (length rows) ended ≤ length rows →
        (s ≤ horizon k (length (rows ++ e ∷ [])) ended) × (horizon k (length (rows ++ e ∷ [])) ended ≤ length (rows ++ e ∷ []))
    horizon_more None a b = (omega (arith, length-append rows (e ∷ [])), omega arith)
    horizon_more (Some h) a b = (a, omega (arith, length-append rows (e ∷ [])))

  foreign_more : (c i : ℕ) (es : List (Row k.Op)) (e : Row k.Op) (ended : Option ℕ) → ((f : Row k.Op) → f ∈ es → f.by ≢ c → k.site f.op ≢ i) →
      (ended ≡ None → e.by ≢ c → k.site e.op ≢ i) → (f : Row k.Op) → f ∈ es ++ come ended e → f.by ≢ c → k.site f.op ≢ i
  foreign_more c i es e None old new f m = ⊎_elim (old f)
      (λ z. subst (λ (g : Row k.Op). g.by ≢ c → k.site g.op ≢ i) (sym (Memᴰ.eq_of_singleton z)) (new refl)) (mem_parts es m)
  foreign_more c i es e (Some h) old new f m = old f (rw (append-nil es) at m)

  -- one entry more
  copy_more : (c i : ℕ) (rows : List (Row k.Op)) (ended : Option ℕ) (typed : List A) (s : ℕ) (p : List k.Op) (t : k.Text) →
      Copy k c i rows (horizon k (length rows) ended) typed s p t → (e : Row k.Op) →
      Match k c p (drop s (take (horizon k (length rows) ended) rows) ++ come ended e) → (ended ≡ None → e.by ≢ c → k.site e.op ≢ i) →
      Copy k c i (rows ++ e ∷ []) (horizon k (length (rows ++ e ∷ [])) ended) typed s p t
  copy_more c i rows ended typed s p t y e m f = record {
    seen = (horizon_more rows e s ended y.seen y.within).0;
    within = (horizon_more rows e s ended y.seen y.within).1;
    text = rw same y.text;
    stack = rw same y.stack;
    mine = y.mine;
    match = rw rest m;
    foreign = rw rest (foreign_more c i _ e ended y.foreign f);
  }
    where
      same : take s (rows ++ e ∷ []) ≡ take s rows
      same = take-append-le s rows (e ∷ []) (le_trans y.seen y.within)

      rest : drop s (take (horizon k (length (rows ++ e ∷ [])) ended) (rows ++ e ∷ [])) ≡ drop s (take (horizon k (length rows) ended) rows) ++ come ended e
      rest = rest_more rows e s ended y.seen y.within

  -- more is typed
  copy_typed : (c i : ℕ) (rows : List (Row k.Op)) (h : ℕ) (typed more : List A) (s : ℕ) (p : List k.Op) (t : k.Text) →
      Copy k c i rows h typed s p t → Copy k c i rows h (typed ++ more) s p t
  copy_typed c i rows h typed more s p t y = record {
    seen = y.seen;
    within = y.within;
    text = y.text;
    stack = y.stack;
    mine = λ x m. mem_left more (y.mine x m);
    match = y.match;
    foreign = y.foreign;
  }

  -- an end leaves what may still come
  pub horizon_ends : (n : ℕ) (ended : Option ℕ) → horizon k n (first_end ended n) ≡ horizon k n ended
  horizon_ends n None = refl
  horizon_ends n (Some h) = refl

  -- WHAT IS TO COME
  own_heads : (p rest comes : List k.Op) (o : k.Op) → o ∷ comes ≡ p ++ rest → Heads k p o
  own_heads [] rest comes o e = tt
  own_heads (f ∷ p) rest comes o e = cc

  own_rest : (p rest comes : List k.Op) (o : k.Op) → o ∷ comes ≡ p ++ rest → (more : List k.Op) × (comes ≡ drop 1 p ++ more)
  own_rest [] rest comes o e = (comes, refl)
  own_rest (f ∷ p) rest comes o e = (rest, cc)

  told_concurrent : (e : Entry k.Op) (seat : Seat k.Op) → seat.connected ≡ true → (told e seat).concurrent ≡ seat.concurrent ++ e ∷ []
  told_concurrent e seat h = ap (λ (s : Seat k.Op). s.concurrent) (cond-true seat.connected _ _ h)

  pub told_connected : (e : Entry k.Op) (seat : Seat k.Op) → (told e seat).connected ≡ seat.connected
  told_connected e seat = cond_both seat.connected _ _ (λ (s : Seat k.Op). s.connected ≡ seat.connected) (λ h. sym h) (λ h. refl)

  module _ (c : ℕ) (rows : List (Row k.Op)) (seat : Seat k.Op) (s : ℕ) (p : List k.Op) where
    -- what would be pending once all of the history is seen
    abbrev out : List k.Op
    out = (run k c s p (drop s rows)).out

    out_more : (e : Row k.Op) → s ≤ length rows → (run k c s p (drop s rows ++ e ∷ [])).out ≡ (run k c s p (drop s (rows ++ e ∷ []))).out
    out_more e h = ap (λ es. (run k c s p es).out) (sym (drop-append-le s rows (e ∷ []) h))

    future_hears : (r : ℕ) (queue : List (Message k.Op)) → Future k c rows seat (message.Revision r ∷ queue) s p → Future k c rows (heard r seat) queue s p
    unfolding desk
    future_hears r queue f = record { rest = f.rest; comes = f.comes }

    module _ (queue : List (Message k.Op)) (f : Future k c rows seat queue s p) where
      future_performs : (m : Submission k.Op) → Future k c rows seat (queue ++ message.Operation m ∷ []) s p
      future_performs m = let more : List k.Op = (meet k m (desk k seat.concurrent queue).left).one ∷ [] in record {
        rest = f.rest ++ more;
        comes = ap (λ (r : Came k). r.comes) (desk_more_queue k seat.concurrent queue m) ∙ ap (λ z. z ++ more) f.comes ∙ append_assoc out f.rest more;
      }

      future_reports : (r : ℕ) → Future k c rows seat (queue ++ message.Revision r ∷ []) s p
      future_reports r = record { rest = f.rest; comes = ap (λ (r : Came k). r.comes) (desk_more_revision k seat.concurrent queue r) ∙ f.comes }

      future_other : seat.connected ≡ true → (high : ℕ) → Said k seat.said queue high → high ≤ length rows → (e : Row k.Op) → e.by ≢ c → s ≤ length rows →
          Future k c (rows ++ e ∷ []) (told (record { place = length rows; op = e.op }) seat) queue s p
      future_other on high said below e b h = let more : List k.Op = (over k (over k e.op out).one f.rest).others in record {
        rest = more;
        comes = ap (λ z. (desk k z queue).comes) (told_concurrent _ seat on)
            ∙ ap (λ (r : Came k). r.comes) (desk_more_concurrent k seat.concurrent seat.said queue _ (said_higher k seat.said high (length rows) queue below said))
            ∙ ap (λ z. (over k e.op z).others) f.comes
            ∙ ap (λ (r : Passed k.Op). r.others) (through_append k.early k.late e.op out f.rest)
            ∙ ap (λ z. z ++ more) (sym (ap (λ (r : Ran k). r.out) (run_snoc_other k c s _ p (drop s rows) e b refl)) ∙ out_more e h);
      }

    -- the server takes the first of what comes
    module _ (m : Submission k.Op) (queue : List (Message k.Op)) (f : Future k c rows seat (message.Operation m ∷ queue) s p) where
      comes_next : (arrival k m seat).one ∷ (desk k (sender k m seat).concurrent queue).comes ≡ out ++ f.rest
      unfolding desk
      comes_next = f.comes

      future_heads : Heads k out (arrival k m seat).one
      future_heads = own_heads out f.rest _ _ comes_next

      future_own : (e : Row k.Op) → e.by ≡ c → s ≤ length rows → Future k c (rows ++ e ∷ []) (sender k m seat) queue s p
      future_own e b h = let r = own_rest out f.rest _ _ comes_next in
          record { rest = r.0; comes = r.1 ∙ ap (λ z. z ++ r.0) (sym (ap (λ (r : Ran k). r.out) (run_snoc_own k c s p (drop s rows) e b)) ∙ out_more e h) }

  -- A life as it is has the copy that its replica is.
  pub kept_now : {c : ℕ} {rows : List (Row k.Op)} {seat : Seat k.Op} {life : Life k} → Alive k c rows seat life →
      Kept k c rows seat life life.replica.revision life.replica.pending life.replica.text
  kept_now a = record { copy = a.copy; future = λ on. record { rest = []; comes = sym (a.grid on).outs ∙ sym (append-nil _) } }

  -- its grid, by what is under way
  pub grid_of : {c : ℕ} {rows : List (Row k.Op)} {seat : Seat k.Op} {life : Life k} {queue : List (Message k.Op)} → Alive k c rows seat life → seat.connected ≡ true →
      life.queue ≡ queue → Grid k c life.replica.revision life.replica.pending (drop life.replica.revision rows) seat queue
  grid_of {c} {rows} {seat} {life} a on q = subst (Grid k c life.replica.revision life.replica.pending (drop life.replica.revision rows) seat) q (a.grid on)

  -- WHAT EACH STEP LEAVES OF A COPY THAT A LIFE ONCE HAD
  module _ (c : ℕ) (rows : List (Row k.Op)) (seat : Seat k.Op) (life : Life k) (s : ℕ) (p : List k.Op) (t : k.Text) (y : Kept k c rows seat life s p t) where
    pub kept_performs : (o : k.Op) → Kept k c rows seat (performing k o life) s p t
    kept_performs o = record {
      copy = rw (typed_snoc k life.deeds) (copy_typed c life.site rows _ _ (k.puts o) s p t y.copy);
      future = λ on. future_performs c rows seat s p life.queue (y.future on) _;
    }

    pub kept_reports : Kept k c rows seat (reporting k life) s p t
    kept_reports = record { copy = y.copy; future = λ on. future_reports c rows seat s p life.queue (y.future on) _ }

    pub kept_hears : (r : ℕ) (rest : List (Message k.Op)) → life.queue ≡ message.Revision r ∷ rest → Kept k c rows (heard r seat) (with_queue k rest life) s p t
    kept_hears r rest q = record {
      copy = y.copy;
      future = λ on. future_hears c rows seat s p r rest (subst (λ ms. Future k c rows seat ms s p) q (y.future on));
    }

    pub kept_sees : (e : Row k.Op) → Kept k c rows seat (seeing k c e life) s p t
    kept_sees e = record { copy = y.copy; future = y.future }

    pub kept_ends : Kept k c rows free (ended_at k (length rows) life) s p t
    kept_ends = record {
      copy = rw (horizon_ends (length rows) life.ended) y.copy;
      future = λ on. absurd (false≢true on);
    }

    short : s ≤ length rows
    short = le_trans y.copy.seen y.copy.within

    pub rest_now : life.ended ≡ None → drop s (take (horizon_of k rows life) rows) ≡ drop s rows
    rest_now u = ap (drop s) (ap (λ d. take (horizon k (length rows) d) rows) u ∙ take_all (length rows) rows (omega arith))

    pub kept_takes_own : Alive k c rows seat life → seat.connected ≡ true → (m : Submission k.Op) (rest : List (Message k.Op)) → life.queue ≡ message.Operation m ∷ rest →
        Kept k c (rows ++ record { by = c; op = (arrival k m seat).one } ∷ []) (sender k m seat) (with_queue k rest life) s p t
    kept_takes_own a on m rest q = record {
      copy = copy_more c life.site rows life.ended (typed_in k life.deeds) s p t y.copy e
          (subst (λ d. Match k c p (drop s (take (horizon_of k rows life) rows) ++ come d e)) (sym (a.unended on))
          (match_own_snoc k c e s y.copy.match refl (rw (rest_now (a.unended on)) (future_heads c rows seat s p m rest f))))
          (λ v n. absurd (n refl));
      future = λ v. future_own c rows seat s p m rest f e refl short;
    }
      where
        e : Row k.Op
        e = record { by = c; op = (arrival k m seat).one }

        f : Future k c rows seat (message.Operation m ∷ rest) s p
        f = subst (λ ms. Future k c rows seat ms s p) q (y.future on)

    pub kept_takes_other : Alive k c rows seat life → (e : Row k.Op) → e.by ≢ c → (life.ended ≡ None → k.site e.op ≢ life.site) →
        Kept k c (rows ++ e ∷ []) (told (record { place = length rows; op = e.op }) seat) life s p t
    kept_takes_other a e b h = record {
      copy = copy_more c life.site rows life.ended (typed_in k life.deeds) s p t y.copy e (match_come life.ended) (λ u n. h u);
      future = λ v.
          let on : seat.connected ≡ true = sym (told_connected _ seat) ∙ v in
          future_other c rows seat s p life.queue (y.future on) on _ (a.grid on).said (le_trans a.copy.seen a.copy.within) e b short;
    }
      where
        match_come : (ended : Option ℕ) → Match k c p (drop s (take (horizon_of k rows life) rows) ++ come ended e)
        match_come None = match_other_snoc k c e y.copy.match b
        match_come (Some d) = rw append-nil y.copy.match
