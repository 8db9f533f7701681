-- Of each operation that is under way to the server its life has still the copy at which it was performed; and what it meets at the server fits that copy's text.
use Rattle.std.proofs.Common.{◌≡◌, ℕ, suc, ◌≤◌, ◌⊎◌, true, List, [], ◌∷◌, ◌++◌, length, take, drop, None, ◌≢◌, refl, sym, ap, ◌∙◌, subst, subst₂, inl, inr, ⊎_elim, arith, le_trans, length-append, length-drop}
use Rattle.std.proofs.lemmas.Bool.{false≢true}
use Rattle.std.proofs.lemmas.List.{drop-append-le, take_all}
use mathlib.Core.List.Memᴰ
use Rattle.operation.specs.declared.entry.Submission.{Submission}
use Rattle.operation.specs.Letters.{◌∈◌}
use Rattle.operation.specs.Entries.{operations}
use Rattle.operation.specs.Laws.{Kind, Laws, apply_all, Others}
use Rattle.server.specs.Sessions.{Seat, free, joined_at, heard, told, sender, arrival, unseen}
use Rattle.network.specs.declared.message.Message.{Message}
use Rattle.network.specs.declared.message.Message.TheVariants as message
use Rattle.network.specs.OneRecord.{taken_of}
use Rattle.network.specs.Runs.{Row, Deed, Life, Net, Connected, newborn, ended_at, performing, with_queue, reporting, seeing, entry_of, Step, performs, reports, takes, hears, sees, joins, ends, crashes, here, onward, Reachable}
use Rattle.network.proofs.Invariants.{typed_in, Ran, over, run, desk, Match, end, own, other, Grid, Kept, Alive, horizon, horizon_of, Good}
use Rattle.network.proofs.Letters.{mem_left, mem_right, site_one}
use Rattle.network.proofs.Grid.{taken_own, taken_other, length_others, run_own, run_other, grid_other, grid_own, grid_hears}
use Rattle.network.proofs.Stacks.{Along, over_text, over_fits, along_fits, along_site, along_own, along_other, copy_match, copy_along}
use Rattle.network.proofs.Copies.{told_connected, kept_now, kept_performs, kept_reports, kept_hears, kept_takes_own, kept_takes_other, kept_sees}
use Rattle.network.proofs.Matches.{heads_first}
use Rattle.network.proofs.Seats.{everywhere, everywhere_both}
use Rattle.network.proofs.Nets.{not_typed, where_entered, entry_site, good}

-- x at the end: y is before it, or is x
snoc_split : {X : Type 0} (xs pre post : List X) (x y : X) → xs ++ x ∷ [] ≡ pre ++ y ∷ post → ((more : List X) × (xs ≡ pre ++ y ∷ more)) ⊎ ((xs ≡ pre) × (x ≡ y))
snoc_split [] [] post x y e = inr (refl, cc)
snoc_split [] (z ∷ pre) post x y e = absurd (omega (arith, ap length e, length-append pre (y ∷ post)))
snoc_split (a ∷ xs) [] post x y e = inl (xs, cc)
snoc_split (a ∷ xs) (z ∷ pre) post x y e =
    let h : a ≡ z = cc in
    ⊎_elim (λ r. inl (r.0, let i = r.1 in cc)) (λ r. inr (let i = r.0 in cc, r.1)) (snoc_split xs pre post x y (cc))

module _ {A : Type 0} (k : Kind A) where
  -- m, with `pre` before it in the queue: what it was performed as, and the copy that its life had then
  pub record Sent (c : ℕ) (rows : List (Row k.Op)) (seat : Seat k.Op) (life : Life k) (pre : List (Message k.Op)) (m : Submission k.Op) : Type 0 where
    pub deed : Deed k
    pub done : deed ∈ life.deeds
    pub op : deed.op ≡ m.op
    pub fits : k.Fits m.op deed.before
    pub site : k.site m.op ≡ life.site
    pub pending : List k.Op
    pub kept : Kept k c rows seat life m.revision pending deed.before
    pub grid : Grid k c m.revision pending (drop m.revision rows) seat pre

  -- this holds of each operation in the queue, while the connection lasts
  abbrev pub AllSent : ℕ → List (Row k.Op) → Seat k.Op → Life k → Type 0
  AllSent c rows seat life = seat.connected ≡ true → (pre post : List (Message k.Op)) (m : Submission k.Op) → life.queue ≡ pre ++ message.Operation m ∷ post →
      Sent c rows seat life pre m

  abbrev pub Queued : Net k → Type 0
  Queued n = (c : ℕ) → AllSent c n.rows (n.server.seats c) (n.lives c)

  -- WHAT EACH STEP LEAVES OF IT, life by life
  module _ (c : ℕ) (rows : List (Row k.Op)) (seat : Seat k.Op) (life : Life k) where
    -- it is under way still
    still : {rows′ : List (Row k.Op)} {seat′ : Seat k.Op} {life′ : Life k} {pre pre′ : List (Message k.Op)} {m : Submission k.Op} (s : Sent c rows seat life pre m) →
        ((d : Deed k) → d ∈ life.deeds → d ∈ life′.deeds) → life.site ≡ life′.site → Kept k c rows′ seat′ life′ m.revision s.pending s.deed.before →
        Grid k c m.revision s.pending (drop m.revision rows′) seat′ pre′ → Sent c rows′ seat′ life′ pre′ m
    still s d i y g = record { deed = s.deed; done = d s.deed s.done; op = s.op; fits = s.fits; site = s.site ∙ i; pending = s.pending; kept = y; grid = g }

    short : {pre : List (Message k.Op)} {m : Submission k.Op} → Sent c rows seat life pre m → m.revision ≤ length rows
    short s = le_trans s.kept.copy.seen s.kept.copy.within

    module _ (y : AllSent c rows seat life) where
      sent_performs : Alive k c rows seat life → (o : k.Op) → k.site o ≡ life.site → k.Fits o life.replica.text → AllSent c rows seat (performing k o life)
      sent_performs a o e f on pre post m q = ⊎_elim
          (λ r. let s = y on pre r.0 m r.1 in still s (λ d i. mem_left _ i) refl (kept_performs k c rows seat life _ _ _ s.kept o) s.grid)
          (λ r. subst₂ (Sent c rows seat (performing k o life)) r.0 (let h = r.1 in cc) (record {
            deed = record { op = o; before = life.replica.text };
            done = mem_right life.deeds (Memᴰ.head refl);
            op = refl;
            fits = f;
            site = e;
            pending = life.replica.pending;
            kept = kept_performs k c rows seat life _ _ _ (kept_now k a) o;
            grid = a.grid on;
          }))
          (snoc_split life.queue pre post _ (message.Operation m) q)

      sent_reports : AllSent c rows seat (reporting k life)
      sent_reports on pre post m q = ⊎_elim
          (λ r. let s = y on pre r.0 m r.1 in still s (λ d i. i) refl (kept_reports k c rows seat life _ _ _ s.kept) s.grid)
          (λ r. absurd (let h = r.1 in cc))
          (snoc_split life.queue pre post _ (message.Operation m) q)

      sent_hears : (r : ℕ) (rest : List (Message k.Op)) → life.queue ≡ message.Revision r ∷ rest → AllSent c rows (heard r seat) (with_queue k rest life)
      sent_hears r rest h on pre post m q = let s = y on (message.Revision r ∷ pre) post m (h ∙ ap (◌∷◌ (message.Revision r)) q) in
          still s (λ d i. i) refl (kept_hears k c rows seat life _ _ _ s.kept r rest h) (grid_hears k s.grid)

      sent_sees : (e : Row k.Op) → AllSent c rows seat (seeing k c e life)
      sent_sees e on pre post m q = let s = y on pre post m q in still s (λ d i. i) refl (kept_sees k c rows seat life _ _ _ s.kept e) s.grid

      -- an entry comes to the history: its own
      sent_takes_own : Alive k c rows seat life → (o : Submission k.Op) (rest : List (Message k.Op)) → life.queue ≡ message.Operation o ∷ rest →
          AllSent c (rows ++ record { by = c; op = (arrival k o seat).one } ∷ []) (sender k o seat) (with_queue k rest life)
      sent_takes_own a o rest h on pre post m q = let s = y on (message.Operation o ∷ pre) post m (h ∙ ap (◌∷◌ (message.Operation o)) q) in
          still s (λ d i. i) refl (kept_takes_own k c rows seat life _ _ _ s.kept a on o rest h)
          (rw (drop-append-le m.revision rows (record { by = c; op = (arrival k o seat).one } ∷ []) (short s)) (grid_own k s.grid _ refl))

      -- another's
      sent_takes_other : Alive k c rows seat life → (e : Row k.Op) → e.by ≢ c → (life.ended ≡ None → k.site e.op ≢ life.site) →
          AllSent c (rows ++ e ∷ []) (told (record { place = length rows; op = e.op }) seat) life
      sent_takes_other a e b h v pre post m q =
          let on : seat.connected ≡ true = sym (told_connected k _ seat) ∙ v in
          let s = y on pre post m q in
          still s (λ d i. i) refl (kept_takes_other k c rows seat life _ _ _ s.kept a e b h)
          (rw (drop-append-le m.revision rows (e ∷ []) (short s)) (grid_other k s.grid on e b (omega (arith, length-drop m.revision rows, short s))))

    -- nothing is under way, or it has ended
    sent_none : life.queue ≡ [] → AllSent c rows seat life
    sent_none h on pre post m q = absurd (omega (arith, ap length (sym h ∙ q), length-append pre (message.Operation m ∷ post)))

  sent_ended : (c : ℕ) (rows : List (Row k.Op)) (life : Life k) → AllSent c rows free life
  sent_ended c rows life on = absurd (false≢true on)

module _ {A : Type 0} (k : Kind A) (l : Laws k) where
  queued_step : (n m : Net k) → Good k n → Step k n m → Queued k n → Queued k m
  queued_step n _ g (performs c o u s f x a) y = everywhere (λ j. AllSent k j n.rows (n.server.seats j)) c (performing k o (n.lives c)) n.lives
      (sent_performs k c n.rows (n.server.seats c) (n.lives c) (y c) (g.alive c u.0) o s f) (λ j _. y j)
  queued_step n _ g (reports c u) y = everywhere (λ j. AllSent k j n.rows (n.server.seats j)) c (reporting k (n.lives c)) n.lives
      (sent_reports k c n.rows (n.server.seats c) (n.lives c) (y c)) (λ j _. y j)
  queued_step n _ g (takes c m rest u q) y = where_entered k l (λ j. AllSent k j (n.rows ++ entry_of k c m n ∷ [])) n g.recorded c _ _ _
      (sent_takes_own k c n.rows (n.server.seats c) (n.lives c) (y c) (g.alive c (g.seated.given c u)) m rest q)
      (λ j ne v. let h = g.seated.given j (sym (told_connected k _ (n.server.seats j)) ∙ v) in
      sent_takes_other k j n.rows (n.server.seats j) (n.lives j) (y j) (g.alive j h) (entry_of k c m n) (λ z. ne (sym z)) (entry_site k l n g c m rest u q j h ne) v)
  queued_step n _ g (hears c r rest u q) y = everywhere_both (λ j. AllSent k j n.rows) c (heard r (n.server.seats c)) n.server.seats (with_queue k rest (n.lives c)) n.lives
      (sent_hears k c n.rows (n.server.seats c) (n.lives c) (y c) r rest q) (λ j _. y j)
  queued_step n _ g (sees c e before after u q f s) y = everywhere (λ j. AllSent k j n.rows (n.server.seats j)) c (seeing k c e (n.lives c)) n.lives
      (sent_sees k c n.rows (n.server.seats c) (n.lives c) (y c) e) (λ j _. y j)
  queued_step n _ g (joins p i a b) y = everywhere_both (λ j. AllSent k j n.rows) n.connections (joined_at (length n.server.history)) n.server.seats
      (newborn k p i n.server.text (length n.server.history)) n.lives (sent_none k n.connections n.rows _ _ refl) (λ j _. y j)
  queued_step n _ g (ends c u) y = everywhere_both (λ j. AllSent k j n.rows) c free n.server.seats (ended_at k (length n.server.history) (n.lives c)) n.lives
      (sent_ended k c n.rows _) (λ j _. y j)
  queued_step n _ g crashes y = λ c. sent_ended k c n.rows _

  pub queued : (n : Net k) → Reachable k n → Queued k n
  queued _ here = λ c. sent_ended k c [] _
  queued n (onward r s _) = queued_step _ n (good k l _ r) s (queued _ r)

  -- WHAT COMES OVER A COPY
  module _ (i c : ℕ) (typed : List A) where
    -- each fits the text that those before it leave, and is of another site
    tops_fit : {p : List k.Op} {es : List (Row k.Op)} → Match k c p es → (s : ℕ) (known : List A) (t : k.Text) → Along k i c typed p es known t → taken_of c es ≤ length p →
        Others k i (operations (run k c s p es).top) (apply_all k p t)
    unfolding run Others apply_all
    tops_fit end s known t a n = tt
    tops_fit (own {p} {e} {es} b h m) s known t a n =
        let q : p ≡ e.op ∷ drop 1 p = heads_first k p e.op h (omega (arith, taken_own c e es b)) in
        subst₂ (λ (r : Ran k) z. Others k i (operations r.top) z) (sym (run_own k c s p e es b)) (ap (λ z. apply_all k z t) (sym q))
        (tops_fit m (suc s) (known ++ k.puts e.op) (k.apply e.op t) (along_own k l i a h) (omega (arith, taken_own c e es b, length-drop 1 p)))
    tops_fit (other {p} {e} {es} b m) s known t a n =
        let f = along_site k l i a b in
        subst (λ (r : Ran k). Others k i (operations r.top) (apply_all k p t)) (sym (run_other k c s p e es b)) (
          (λ q. f (sym (site_one k l e.op p) ∙ sym q)),
          over_fits k l i known t e.op p a.stack (along_fits k l i a) f,
          subst (Others k i (operations (run k c (suc s) (over k e.op p).others es).top)) (sym (over_text k l i known t e.op p a.stack (along_fits k l i a) f))
              (tops_fit m (suc s) (known ++ k.puts e.op) (k.apply e.op t) (along_other k l i a b)
              (omega (arith, taken_other c e es b, length_others k.early k.late e.op p))),
        )

  -- WHAT AN OPERATION MEETS at the server, once what is before it in the queue has been taken: it fits the text at which the operation was performed, and is of other sites
  module _ (n : Net k) (g : Good k n) (c : ℕ) (on : Connected k n c) where
    pub others_met : (pre : List (Message k.Op)) (m : Submission k.Op) (s : Sent k c n.rows (n.server.seats c) (n.lives c) pre m) →
        Others k (n.lives c).site (operations (unseen m.revision (desk k (n.server.seats c).concurrent pre).left)) s.deed.before
    others_met pre m s =
        let y = s.kept.copy in
        let all : take (length n.rows) n.rows ≡ n.rows = take_all (length n.rows) n.rows (omega arith) in
        let h : horizon_of k n.rows (n.lives c) ≡ length n.rows = ap (horizon k (length n.rows)) ((g.alive c (g.seated.given c on)).unended on) in
        let apart = not_typed k l n g.lettered c in
        let b : m.revision ≤ length n.rows = le_trans y.seen y.within in
        let w : length n.rows ≤ horizon_of k n.rows (n.lives c) = omega arith in
        subst₂ (λ bs t. Others k (n.lives c).site (operations bs) t) (ap (λ es. (run k c m.revision s.pending (drop m.revision es)).top) all ∙ s.grid.tops) (sym y.text)
        (tops_fit (n.lives c).site c (typed_in k (n.lives c).deeds) (copy_match k l y g.recorded.fitting g.recorded.once apart (length n.rows) b w) m.revision _ _
        (copy_along k l y g.recorded.fitting g.recorded.once apart (length n.rows) b w) (omega (arith, s.grid.count, ap (λ es. taken_of c (drop m.revision es)) all)))

    -- with nothing before it: what the operation goes past when the server takes it
    pub meets_fit : (m : Submission k.Op) (s : Sent k c n.rows (n.server.seats c) (n.lives c) [] m) →
        Others k (n.lives c).site (operations (unseen m.revision (n.server.seats c).concurrent)) s.deed.before
    unfolding desk
    meets_fit m s = others_met [] m s
