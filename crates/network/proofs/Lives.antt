-- Each step leaves a life and its seat as they should be: its text is a copy of the history, and client and server compute one grid.
use Rattle.std.proofs.Common.{◌≡◌, ℕ, suc, ◌+◌, ◌<◌, ◌≤◌, ⊎_elim, true, List, [], ◌∷◌, ◌++◌, length, take, drop, get_or, Some, None, Option, ◌==◌, ◌≢◌}
use Rattle.std.proofs.Common.{sym, refl, ap, ◌∙◌, subst, subst₂, arith, le_trans, add-one, append_assoc}
use Rattle.std.proofs.lemmas.Bool.{false≢true, cond_both, eqb-true, eqb-false}
use Rattle.std.proofs.lemmas.List.{length-append, length-drop, take-append-le, drop-append-le}
use Rattle.std.proofs.lemmas.List.{take_all, drop_all}
use Rattle.operation.specs.declared.entry.Submission.{Submission}
use Rattle.operation.specs.Letters.{◌∈◌, Once, Apart}
use Rattle.operation.specs.Laws.{Kind, Laws, apply_all}
use Rattle.client.specs.Replicas.{confirmed, received}
use Rattle.server.specs.Sessions.{Seat, free, joined_at, heard, told, sender, arrival}
use Rattle.network.specs.declared.message.Message.{Message}
use Rattle.network.specs.declared.message.Message.TheVariants as message
use Rattle.network.specs.Runs.{Row, ops, count_of, Life, performing, with_queue, with_replica, reporting, seeing, newborn, ended_at, Sendable}
use Rattle.network.specs.OneRecord.{taken_of}
use Rattle.network.proofs.Invariants.{puts_all, put_in, typed_in, replay, Fitting, Mine, run, over, Grid, Match, Copy, horizon, horizon_of, Alive}
use Rattle.network.proofs.Letters.{mem_left, mem_right, mem_parts, mem_of, once_left, puts_all_snoc, apply_all_snoc}
use Rattle.network.proofs.Letters.{put_in_snoc, put_in_take, typed_snoc, replay_snoc}
use Rattle.network.proofs.Lists.{next_at, next_of, next_front, next_rest}
use Rattle.network.proofs.Stacks.{Along, along_fits, along_site, along_own, along_other, copy_along, copy_goes, copy_fresh, over_text, stack_more}
use Rattle.network.proofs.Grid.{taken_own, taken_other, taken_append, taken_snoc_own, taken_snoc_other, length_others}
use Rattle.network.proofs.Grid.{grid_performs, grid_reports, grid_other, grid_own, grid_hears, grid_sees, grid_sees_own, grid_joins, grid_head}
use Rattle.network.proofs.Matches.{heads_first, match_more, match_sees, match_sees_own}
use Rattle.network.proofs.Copies.{come, rest_more, horizon_ends, told_connected, kept_now, grid_of, kept_takes_own, kept_takes_other, kept_ends}

-- A COPY AND THE NEXT ENTRY
module _ {A : Type 0} (k : Kind A) (l : Laws k) {c i : ℕ} {rows : List (Row k.Op)} {h : ℕ} {typed : List A} {s : ℕ} {p : List k.Op} {t : k.Text}
    (y : Copy k c i rows h typed s p t)
    (fit : Fitting k (ops rows) k.empty) (once : Once (put_in k rows)) (apart : (e : Row k.Op) → e ∈ rows → e.by ≢ c → Apart typed (k.puts e.op)) (e : Row k.Op)
    (g : get_or rows s e ≡ e) (n : s < h) where
  here : s < length rows
  here = let b = y.within in omega arith

  next : drop s (take h rows) ≡ e ∷ drop (s + 1) (take h rows)
  next = next_of rows e s h g n y.within

  coming : Along k i c typed p (e ∷ drop (s + 1) (take h rows)) (put_in k (take s rows)) (replay k (take s rows))
  coming = subst (λ es. Along k i c typed p es (put_in k (take s rows)) (replay k (take s rows))) next (copy_along k l y fit once apart h y.seen (omega arith))

  known_next : put_in k (take (s + 1) rows) ≡ put_in k (take s rows) ++ k.puts e.op
  known_next = ap (put_in k) (next_front rows e s g here) ∙ put_in_snoc k (take s rows) e

  text_next : replay k (take (s + 1) rows) ≡ k.apply e.op (replay k (take s rows))
  text_next = ap (replay k) (next_front rows e s g here) ∙ replay_snoc k (take s rows) e

  -- it is seen: q is pending then
  copy_sees : (q : List k.Op) (w : k.Text) → w ≡ apply_all k q (k.apply e.op (replay k (take s rows))) → Match k c q (drop (s + 1) (take h rows)) →
      Along k i c typed q (drop (s + 1) (take h rows)) (put_in k (take s rows) ++ k.puts e.op) (k.apply e.op (replay k (take s rows))) → Copy k c i rows h typed (s + 1) q w
  copy_sees q w same m a = record {
    seen = omega arith;
    within = y.within;
    text = same ∙ ap (apply_all k q) (sym text_next);
    stack = rw (known_next, text_next) a.stack;
    mine = a.mine;
    match = m;
    foreign = a.foreign;
  }

  copy_sees_own : e.by ≡ c → 0 < length p → Copy k c i rows h typed (s + 1) (drop 1 p) t
  unfolding apply_all
  copy_sees_own b some =
      let m = match_sees_own k c (subst (Match k c p) next y.match) b in
      copy_sees (drop 1 p) t (y.text ∙ ap (λ z. apply_all k z (replay k (take s rows))) (heads_first k p e.op m.0 some)) m.1 (along_own k l i coming m.0)

  copy_sees_other : e.by ≢ c → Copy k c i rows h typed (s + 1) (over k e.op p).others (k.apply (over k e.op p).one t)
  copy_sees_other b = copy_sees (over k e.op p).others _
      (ap (k.apply (over k e.op p).one) y.text ∙ over_text k l i _ _ e.op p y.stack (along_fits k l i coming) (along_site k l i coming b))
      (match_sees k c (subst (Match k c p) next y.match) b) (along_other k l i coming b)

-- an entry that may still come to a life is within what it may see
pub sendable_within : {A : Type 0} (k : Kind A) {s n : ℕ} → s < n → (d : Option ℕ) → Sendable k d s → s < horizon k n d
sendable_within k h None x = h
sendable_within k h (Some d) x = x

-- A LIFE AND ITS SEAT
module _ {A : Type 0} (k : Kind A) (l : Laws k) (c : ℕ) (rows : List (Row k.Op)) (seat : Seat k.Op) (life : Life k) (a : Alive k c rows seat life) where
  open life.replica use {revision as s, pending as p}

  short : s ≤ length rows
  short = le_trans a.copy.seen a.copy.within

  -- o is performed and sent
  pub alive_performs : (o : k.Op) → k.site o ≡ life.site → k.Fits o life.replica.text → Once (k.puts o) → Apart (k.puts o) (put_in k rows) →
      Apart (k.puts o) (typed_in k life.deeds) → Alive k c rows seat (performing k o life)
  alive_performs o e f u g h = record {
    copy = record {
      seen = a.copy.seen;
      within = a.copy.within;
      text = ap (k.apply o) a.copy.text ∙ sym (apply_all_snoc k p o _);
      stack = stack_more k l life.site _ _ p a.copy.stack o e (subst (k.Fits o) a.copy.text f) u
          (λ x m n. ⊎_elim (λ z. g x n (put_in_take k s rows z)) (λ z. h x n (a.copy.mine x z)) (mem_parts _ m));
      mine = λ x m. mem_of (sym (typed_snoc k life.deeds _))
          (⊎_elim (λ z. mem_left (k.puts o) (a.copy.mine x z)) (λ z. mem_right _ z) (mem_parts _ (mem_of (puts_all_snoc k p o) m)));
      match = match_more k c o a.copy.match a.enough;
      foreign = a.copy.foreign;
    };
    grid = λ on. grid_performs k (a.grid on) o;
    unended = a.unended;
    performed = omega (arith, a.performed, length-append p (o ∷ []), length-append life.deeds (record { op = o; before = life.replica.text } ∷ []));
    enough = omega (arith, a.enough, length-append p (o ∷ []));
  }

  pub alive_reports : Alive k c rows seat (reporting k life)
  alive_reports = record { copy = a.copy; grid = λ on. grid_reports k (a.grid on); unended = a.unended; performed = a.performed; enough = a.enough }

  pub alive_hears : (r : ℕ) (rest : List (Message k.Op)) → life.queue ≡ message.Revision r ∷ rest → Alive k c rows (heard r seat) (with_queue k rest life)
  alive_hears r rest q = record {
    copy = a.copy;
    grid = λ on. grid_hears k (grid_of k a on q);
    unended = a.unended;
    performed = a.performed;
    enough = a.enough;
  }

  pub alive_ends : Alive k c rows free (ended_at k (length rows) life)
  alive_ends = record {
    copy = (kept_ends k c rows seat life _ _ _ (kept_now k a)).copy;
    grid = λ on. absurd (false≢true on);
    unended = λ on. absurd (false≢true on);
    performed = a.performed;
    enough = rw (horizon_ends k (length rows) life.ended) a.enough;
  }

  -- an entry comes to the history: its own
  pub alive_takes_own : seat.connected ≡ true → (m : Submission k.Op) (rest : List (Message k.Op)) → life.queue ≡ message.Operation m ∷ rest →
      Alive k c (rows ++ record { by = c; op = (arrival k m seat).one } ∷ []) (sender k m seat) (with_queue k rest life)
  alive_takes_own on m rest q = record {
    copy = (kept_takes_own k c rows seat life _ _ _ (kept_now k a) a on m rest q).copy;
    grid = λ v. rw (drop-append-le s rows (e ∷ []) short) grid;
    unended = a.unended;
    performed = rw (take-append-le s rows (e ∷ []) short) a.performed;
    enough = rw (a.unended on, take_all (length (rows ++ e ∷ [])) (rows ++ e ∷ []) (omega arith), drop-append-le s rows (e ∷ []) short) (omega (arith, grid.count));
  }
    where
      e : Row k.Op
      e = record { by = c; op = (arrival k m seat).one }

      grid : Grid k c s p (drop s rows ++ e ∷ []) (sender k m seat) rest
      grid = grid_own k (grid_of k a on q) e refl

  -- another's
  pub alive_takes_other : (e : Row k.Op) → e.by ≢ c → (life.ended ≡ None → k.site e.op ≢ life.site) →
      Alive k c (rows ++ e ∷ []) (told (record { place = length rows; op = e.op }) seat) life
  unfolding count_of
  alive_takes_other e b h = record {
    copy = (kept_takes_other k c rows seat life _ _ _ (kept_now k a) a e b h).copy;
    grid = λ v. rw (drop-append-le s rows (e ∷ []) short) (grid_other k (a.grid (on v)) (on v) e b (omega (arith, length-drop s rows, short)));
    unended = λ v. a.unended (on v);
    performed = rw (take-append-le s rows (e ∷ []) short) a.performed;
    enough = rw (rest_more k rows e s life.ended a.copy.seen a.copy.within, taken_append c, none life.ended) (omega (arith, a.enough));
  }
    where
      on : (told (record { place = length rows; op = e.op }) seat).connected ≡ true → seat.connected ≡ true
      on v = sym (told_connected k _ seat) ∙ v

      none : (d : Option ℕ) → taken_of c (come k d e) ≡ 0
      none None = taken_other c e [] b
      none (Some d) = refl

  -- it sees the next entry
  module _ (fit : Fitting k (ops rows) k.empty) (once : Once (put_in k rows)) (apart : (e : Row k.Op) → e ∈ rows → e.by ≢ c → Apart (typed_in k life.deeds) (k.puts e.op))
      (e : Row k.Op) (g : get_or rows s e ≡ e) (n : s < horizon_of k rows life) where
    abbrev left : List (Row k.Op)
    left = drop (s + 1) (take (horizon_of k rows life) rows)

    before : s < length rows
    before = let v = a.copy.within in omega arith

    grid_now : seat.connected ≡ true → Grid k c s p (e ∷ drop (s + 1) rows) seat life.queue
    grid_now on = subst (λ es. Grid k c s p es seat life.queue) (next_rest rows e s g before) (a.grid on)

    enough_now : taken_of c (e ∷ left) ≤ length p
    enough_now = subst (λ es. taken_of c es ≤ length p) (next_of rows e _ _ g n a.copy.within) a.enough

    sees_own : e.by ≡ c → Alive k c rows seat (with_replica k (confirmed k life.replica) life)
    sees_own b = record {
      copy = copy_sees_own k l a.copy fit once apart e g n b (omega (arith, some));
      grid = λ on. subst (λ r. Grid k c r (drop 1 p) (drop (s + 1) rows) seat life.queue) (sym (add-one s)) (grid_sees_own k (grid_now on) b);
      unended = a.unended;
      performed = rw (next_front rows e s g before, taken_snoc_own c (take s rows) e b) (omega (arith, a.performed, length-drop 1 p, some));
      enough = omega (arith, some, length-drop 1 p);
    }
      where
        some : suc (taken_of c left) ≤ length p
        some = omega (arith, enough_now, taken_own c e left b)

    sees_other : e.by ≢ c → Alive k c rows seat (with_replica k (received k e.op life.replica) life)
    sees_other b = record {
      copy = copy_sees_other k l a.copy fit once apart e g n b;
      grid = λ on. subst (λ r. Grid k c r (over k e.op p).others (drop (s + 1) rows) seat life.queue) (sym (add-one s)) (grid_sees k (grid_now on) b);
      unended = a.unended;
      performed = rw (next_front rows e s g before, taken_snoc_other c (take s rows) e b, length_others k.early k.late e.op p) a.performed;
      enough = rw (length_others k.early k.late e.op p) (omega (arith, enough_now, taken_other c e left b));
    }

  pub alive_sees : Fitting k (ops rows) k.empty → Once (put_in k rows) → ((e : Row k.Op) → e ∈ rows → e.by ≢ c → Apart (typed_in k life.deeds) (k.puts e.op)) →
      (e : Row k.Op) (before after : List (Row k.Op)) → rows ≡ before ++ e ∷ after → length before ≡ life.replica.revision → Sendable k life.ended life.replica.revision →
      Alive k c rows seat (seeing k c e life)
  alive_sees fit once apart e before after q n sendable = cond_both (e.by == c) _ _ (λ r. Alive k c rows seat (with_replica k r life))
      (λ t. sees_own fit once apart e place.0 within (eqb-true _ _ t)) (λ t. sees_other fit once apart e place.0 within (eqb-false _ _ t))
    where
      place : (get_or rows s e ≡ e) × (s < length rows)
      place = next_at rows e before after s q n

      within : s < horizon_of k rows life
      within = sendable_within k place.1 life.ended sendable

  -- what the server takes next of it fits the server's text, is of its site, and puts in letters that were typed in it and that no entry has put in
  pub alive_head : Fitting k (ops rows) k.empty → Once (put_in k rows) → seat.connected ≡ true →
      ((e : Row k.Op) → e ∈ rows → e.by ≢ c → Apart (typed_in k life.deeds) (k.puts e.op)) →
      (m : Submission k.Op) (rest : List (Message k.Op)) → life.queue ≡ message.Operation m ∷ rest →
      k.Fits (arrival k m seat).one (replay k rows) × (k.site (arrival k m seat).one ≡ life.site) × Once (put_in k rows ++ k.puts (arrival k m seat).one)
      × ((x : A) → x ∈ k.puts (arrival k m seat).one → x ∈ typed_in k life.deeds)
  unfolding Mine puts_all
  alive_head fit once on apart m rest q = (
    top.stack.mine.1,
    top.stack.mine.0,
    once_left _ _
        (subst Once (sym (append_assoc (put_in k rows) _ _)) top.stack.once),
    λ x n. top.mine x (mem_left _ n),
  )
    where
      all : take (length rows) rows ≡ rows
      all = take_all (length rows) rows (omega arith)

      head : (run k c s p (drop s (take (length rows) rows))).out ≡ (arrival k m seat).one ∷ drop 1 (run k c s p (drop s rows)).out
      head = ap (λ es. (run k c s p (drop s es)).out) all ∙ (grid_head k (grid_of k a on q)).0

      top : Along k life.site c (typed_in k life.deeds) ((arrival k m seat).one ∷ drop 1 (run k c s p (drop s rows)).out) [] (put_in k rows) (replay k rows)
      top = subst₂ (λ z o. Along k life.site c (typed_in k life.deeds) o [] (put_in k z) (replay k z)) all head
          (copy_goes k l a.copy fit once apart (length rows) short (omega (arith, ap (horizon k (length rows)) (a.unended on))))

-- A life begins.
module _ {A : Type 0} (k : Kind A) (l : Laws k) where
  pub alive_joins : (c p i : ℕ) (rows : List (Row k.Op)) → Once (put_in k rows) → taken_of c rows ≡ 0 →
      Alive k c rows (joined_at (length rows)) (newborn k p i (replay k rows) (length rows))
  unfolding apply_all puts_all count_of
  alive_joins c p i rows once none = record {
    copy = copy_fresh k l c i rows once (length rows) (omega arith) _ (ap (replay k) (sym all));
    grid = λ on. rw (drop_all (length rows) rows (omega arith)) (grid_joins k c (length rows));
    unended = λ on. refl;
    performed = rw all (omega arith);
    enough = rw (all, drop_all (length rows) rows (omega arith)) (omega arith);
  }
    where
      all : take (length rows) rows ≡ rows
      all = take_all (length rows) rows (omega arith)
