-- The client and the server compute one grid, whatever step is made: what is pending past what is on its way, and what is concurrent past what is pending.
use Rattle.std.proofs.Common.{◌≡◌, ℕ, suc, ◌+◌, ◌<◌, ◌≤◌, true, eqb, leb, List, [], ◌∷◌, ◌++◌, length, drop, ◌≢◌, sym, refl, ap, subst, ◌∙◌, arith, length-append, length-drop}
use Rattle.std.proofs.lemmas.Bool.{cond-true, cond-false, eq-eqb, ne_eqb, le-leb, lt-leb}
use Rattle.std.proofs.lemmas.Bool.Decides.{nat_tests}
use Rattle.std.proofs.lemmas.List.{map-append, length-map}
use Rattle.operation.specs.declared.entry.Entry.{Entry}
use Rattle.operation.specs.declared.entry.Submission.{Submission}
use Rattle.operation.specs.Entries.{operations, replaced}
use Rattle.operation.specs.Transform.{behind, through}
use Rattle.operation.specs.Laws.{Kind}
use Rattle.server.specs.Sessions.{Seat, joined_at, unseen, heard, told, arrival, sender}
use Rattle.network.specs.declared.message.Message.{Message}
use Rattle.network.specs.declared.message.Message.TheVariants as message
use Rattle.network.specs.Runs.{Row, count_of}
use Rattle.network.specs.Messages.{operations_in}
use Rattle.network.specs.OneRecord.{taken_of}
use Rattle.network.proofs.Invariants.{Ran, over, on_top, run, Came, meet, leave, first, desk, revision_of, Said, Grid}

-- HOW MANY ENTRIES ARE THE CONNECTION'S OWN
module _ {O : Type 0} (c : ℕ) where
  pub taken_own : (e : Row O) (es : List (Row O)) → e.by ≡ c → taken_of c (e ∷ es) ≡ suc (taken_of c es)
  unfolding count_of
  taken_own e es h = cond-true (eqb e.by c) (suc (taken_of c es)) (taken_of c es) (eq-eqb e.by c h)

  pub taken_other : (e : Row O) (es : List (Row O)) → e.by ≢ c → taken_of c (e ∷ es) ≡ taken_of c es
  unfolding count_of
  taken_other e es h = cond-false (eqb e.by c) (suc (taken_of c es)) (taken_of c es) (ne_eqb e.by c h)

  pub taken_append : (xs ys : List (Row O)) → taken_of c (xs ++ ys) ≡ taken_of c xs + taken_of c ys
  unfolding count_of
  taken_append [] ys = omega arith
  taken_append (x ∷ xs) ys = grind (arith, nat_tests, taken_append xs ys)

  pub taken_snoc_own : (es : List (Row O)) (e : Row O) → e.by ≡ c → taken_of c (es ++ e ∷ []) ≡ suc (taken_of c es)
  unfolding count_of
  taken_snoc_own es e h = omega (arith, taken_append es (e ∷ []), taken_own e [] h)

  pub taken_snoc_other : (es : List (Row O)) (e : Row O) → e.by ≢ c → taken_of c (es ++ e ∷ []) ≡ taken_of c es
  unfolding count_of
  taken_snoc_other es e h = omega (arith, taken_append es (e ∷ []), taken_other e [] h)

-- ONE PAST SEVERAL
module _ {O : Type 0} (f g : O → O → O) where
  pub through_append : (a : O) (bs cs : List O) → through f g a (bs ++ cs)
      ≡ record { one = (through f g (through f g a bs).one cs).one; others = (through f g a bs).others ++ (through f g (through f g a bs).one cs).others }
  unfolding through
  through_append a [] cs = refl
  through_append a (b ∷ bs) cs = ap (behind (g b a)) (through_append (f a b) bs cs)

  pub through_snoc : (a : O) (bs : List O) (b : O) →
      through f g a (bs ++ b ∷ []) ≡ record { one = f (through f g a bs).one b; others = (through f g a bs).others ++ g b (through f g a bs).one ∷ [] }
  unfolding through
  through_snoc a bs b = through_append a bs (b ∷ [])

  pub length_others : (a : O) (bs : List O) → length (through f g a bs).others ≡ length bs
  unfolding through
  length_others a [] = refl
  length_others a (b ∷ bs) = ap suc (length_others (f a b) bs)

-- ENTRIES THAT ARE NOT SEEN
module _ {O : Type 0} where
  pub replaced_snoc : (bs : List (Entry O)) (os : List O) (a : Entry O) (o : O) → length os ≡ length bs →
      replaced (bs ++ a ∷ []) (os ++ o ∷ []) ≡ replaced bs os ++ record { place = a.place; op = o } ∷ []
  unfolding replaced
  replaced_snoc [] [] a o h = refl
  replaced_snoc [] (x ∷ os) a o h = absurd (omega arith)
  replaced_snoc (b ∷ bs) [] a o h = absurd (omega arith)
  replaced_snoc (b ∷ bs) (x ∷ os) a o h = ap (◌∷◌ (record { place = b.place; op = x })) (replaced_snoc bs os a o (omega arith))

  pub unseen_in : (r : ℕ) (a : Entry O) (bs : List (Entry O)) → r ≤ a.place → unseen r (a ∷ bs) ≡ a ∷ unseen r bs
  unfolding unseen
  unseen_in r a bs h = cond-true (leb r a.place) (a ∷ unseen r bs) (unseen r bs) (le-leb r a.place h)

  pub unseen_out : (r : ℕ) (a : Entry O) (bs : List (Entry O)) → a.place < r → unseen r (a ∷ bs) ≡ unseen r bs
  unfolding unseen
  unseen_out r a bs h = cond-false (leb r a.place) (a ∷ unseen r bs) (unseen r bs) (lt-leb r a.place h)

  pub unseen_snoc : (r : ℕ) (bs : List (Entry O)) (a : Entry O) → r ≤ a.place → unseen r (bs ++ a ∷ []) ≡ unseen r bs ++ a ∷ []
  unfolding unseen
  unseen_snoc r [] a h = unseen_in r a [] h
  unseen_snoc r (b ∷ bs) a h = grind (arith, nat_tests, unseen_snoc r bs a h)

  -- what is not seen at the later of two revisions
  pub unseen_later : (r s : ℕ) (bs : List (Entry O)) → r ≤ s → unseen s (unseen r bs) ≡ unseen s bs
  unfolding unseen
  unseen_later r s [] h = refl
  unseen_later r s (b ∷ bs) h = grind (arith, nat_tests, unseen_later r s bs h, unseen_in, unseen_out)

  pub unseen_earlier : (r s : ℕ) (bs : List (Entry O)) → r ≤ s → unseen r (unseen s bs) ≡ unseen s bs
  unfolding unseen
  unseen_earlier r s [] h = refl
  unseen_earlier r s (b ∷ bs) h = grind (arith, nat_tests, unseen_earlier r s bs h, unseen_in, unseen_out)

  pub unseen_replaced : (r : ℕ) (bs : List (Entry O)) (os : List O) → unseen r (replaced (unseen r bs) os) ≡ replaced (unseen r bs) os
  unfolding unseen replaced
  unseen_replaced r [] os = refl
  unseen_replaced r (b ∷ bs) [] = grind (arith, nat_tests, unseen_replaced r bs [])
  unseen_replaced r (b ∷ bs) (o ∷ os) = grind (arith, nat_tests, unseen_replaced r bs os, unseen_replaced r bs (o ∷ os), unseen_in)

module _ {A : Type 0} (k : Kind A) where
  -- THE CLIENT'S SIDE
  pub run_own : (c s : ℕ) (p : List k.Op) (e : Row k.Op) (es : List (Row k.Op)) → e.by ≡ c → run k c s p (e ∷ es) ≡ run k c (suc s) (drop 1 p) es
  unfolding run
  run_own c s p e es h = cond-true (eqb e.by c) _ _ (eq-eqb e.by c h)

  pub run_other : (c s : ℕ) (p : List k.Op) (e : Row k.Op) (es : List (Row k.Op)) → e.by ≢ c →
      run k c s p (e ∷ es) ≡ on_top k s (over k e.op p).one (run k c (suc s) (over k e.op p).others es)
  unfolding run
  run_other c s p e es h = cond-false (eqb e.by c) _ _ (ne_eqb e.by c h)

  -- entries that the client has not seen have their places behind those that it has
  run_unseen : (c s : ℕ) (p : List k.Op) (es : List (Row k.Op)) → unseen s (run k c s p es).top ≡ (run k c s p es).top
  unfolding run unseen
  run_unseen c s p [] = refl
  run_unseen c s p (e ∷ es) = grind (arith, nat_tests, unseen_in, unseen_earlier, run_unseen c (suc s) (drop 1 p) es, run_unseen c (suc s) (over k e.op p).others es)

  -- one entry more at the end, and one more pending
  pub run_snoc_own : (c s : ℕ) (p : List k.Op) (es : List (Row k.Op)) (e : Row k.Op) → e.by ≡ c →
      run k c s p (es ++ e ∷ []) ≡ record { out = drop 1 (run k c s p es).out; top = (run k c s p es).top }
  unfolding run
  run_snoc_own c s p [] e h = run_own c s p e [] h
  run_snoc_own c s p (f ∷ es) e h = grind (arith, nat_tests, run_snoc_own c (suc s) (drop 1 p) es e h, run_snoc_own c (suc s) (over k f.op p).others es e h)

  abbrev pub more_top : ℕ → k.Op → Ran k → Ran k
  more_top n o r = record { out = (over k o r.out).others; top = r.top ++ record { place = n; op = (over k o r.out).one } ∷ [] }

  pub run_snoc_other : (c s n : ℕ) (p : List k.Op) (es : List (Row k.Op)) (e : Row k.Op) → e.by ≢ c → n ≡ s + length es →
      run k c s p (es ++ e ∷ []) ≡ more_top n e.op (run k c s p es)
  unfolding run
  run_snoc_other c s n p [] e h g = let z : n ≡ s = omega arith in rw z (run_other c s p e [] h)
  run_snoc_other c s n p (f ∷ es) e h g =
      let l : n ≡ suc s + length es = omega arith in
      grind (arith, nat_tests, run_snoc_other c (suc s) n (drop 1 p) es e h l, run_snoc_other c (suc s) n (over k f.op p).others es e h l)

  abbrev pub more_out : k.Op → Ran k → Ran k
  more_out o r = record {
    out = r.out ++ (through k.late k.early o (operations r.top)).one ∷ [];
    top = replaced r.top (through k.late k.early o (operations r.top)).others;
  }

  pub run_more_out : (c s : ℕ) (p : List k.Op) (es : List (Row k.Op)) (o : k.Op) → taken_of c es ≤ length p → run k c s (p ++ o ∷ []) es ≡ more_out o (run k c s p es)
  unfolding run through replaced
  run_more_out c s p [] o h = refl
  run_more_out c s [] (f ∷ es) o h =
      grind (arith, nat_tests, taken_own c f es, taken_other c f es, run_more_out c (suc s) [] es (k.late o f.op))
  run_more_out c s (x ∷ p) (f ∷ es) o h =
      let q = over k f.op (x ∷ p) in
      grind (
        arith,
        nat_tests,
        taken_own c f es,
        taken_other c f es,
        length_others k.early k.late f.op (x ∷ p),
        through_snoc k.early k.late f.op (x ∷ p) o,
        run_more_out c (suc s) p es o,
        run_more_out c (suc s) q.others es (k.late o q.one),
      )

  -- THE SERVER'S SIDE
  abbrev pub more_way : Submission k.Op → Came k → Came k
  more_way m r = record { comes = r.comes ++ (meet k m r.left).one ∷ []; left = leave k m r.left }

  pub desk_more_queue : (bs : List (Entry k.Op)) (q : List (Message k.Op)) (m : Submission k.Op) → desk k bs (q ++ message.Operation m ∷ []) ≡ more_way m (desk k bs q)
  unfolding desk
  desk_more_queue bs [] m = refl
  desk_more_queue bs (message.Operation n ∷ q) m = ap (first k (meet k n bs).one) (desk_more_queue (leave k n bs) q m)
  desk_more_queue bs (message.Revision r ∷ q) m = desk_more_queue (unseen r bs) q m

  pub desk_more_revision : (bs : List (Entry k.Op)) (q : List (Message k.Op)) (r : ℕ) →
      desk k bs (q ++ message.Revision r ∷ []) ≡ record { comes = (desk k bs q).comes; left = unseen r (desk k bs q).left }
  unfolding desk
  desk_more_revision bs [] r = refl
  desk_more_revision bs (message.Operation n ∷ q) r = ap (first k (meet k n bs).one) (desk_more_revision (leave k n bs) q r)
  desk_more_revision bs (message.Revision n ∷ q) r = desk_more_revision (unseen n bs) q r

  -- one concurrent entry more
  meet_snoc : (m : Submission k.Op) (bs : List (Entry k.Op)) (a : Entry k.Op) → m.revision ≤ a.place →
      meet k m (bs ++ a ∷ []) ≡ record { one = k.late (meet k m bs).one a.op; others = (meet k m bs).others ++ k.early a.op (meet k m bs).one ∷ [] }
  meet_snoc m bs a h = ap (through k.late k.early m.op)
      (ap operations (unseen_snoc m.revision bs a h) ∙ map-append (λ (e : Entry k.Op). e.op) (unseen m.revision bs) (a ∷ []))
      ∙ through_snoc k.late k.early m.op (operations (unseen m.revision bs)) a.op

  leave_snoc : (m : Submission k.Op) (bs : List (Entry k.Op)) (a : Entry k.Op) → m.revision ≤ a.place →
      leave k m (bs ++ a ∷ []) ≡ leave k m bs ++ record { place = a.place; op = k.early a.op (meet k m bs).one } ∷ []
  leave_snoc m bs a h =
      let l = length_others k.late k.early m.op (operations (unseen m.revision bs)) ∙ length-map (unseen m.revision bs) (λ (e : Entry k.Op). e.op) in
      cc (unseen_snoc m.revision bs a h, meet_snoc m bs a h, replaced_snoc (unseen m.revision bs) (meet k m bs).others a (k.early a.op (meet k m bs).one) l)

  pub said_within : (low high : ℕ) (q : List (Message k.Op)) → Said k low q high → low ≤ high
  unfolding Said
  said_within low high [] h = h
  said_within low high (m ∷ q) h = let g = said_within (revision_of k m) high q h.1 in omega (arith, h.0)

  pub said_higher : (low high higher : ℕ) (q : List (Message k.Op)) → high ≤ higher → Said k low q high → Said k low q higher
  unfolding Said
  said_higher low high higher [] l h = omega arith
  said_higher low high higher (m ∷ q) l h = (h.0, said_higher (revision_of k m) high higher q l h.1)

  said_snoc : (low high : ℕ) (q : List (Message k.Op)) (m : Message k.Op) → revision_of k m ≡ high → Said k low q high → Said k low (q ++ m ∷ []) high
  unfolding Said
  said_snoc low high [] m e h = (omega arith, omega arith)
  said_snoc low high (n ∷ q) m e h = (h.0, said_snoc (revision_of k n) high q m e h.1)

  abbrev pub more_concurrent : Entry k.Op → Came k → Came k
  more_concurrent a r = record { comes = (over k a.op r.comes).others; left = r.left ++ record { place = a.place; op = (over k a.op r.comes).one } ∷ [] }

  pub desk_more_concurrent : (bs : List (Entry k.Op)) (low : ℕ) (q : List (Message k.Op)) (a : Entry k.Op) → Said k low q a.place →
      desk k (bs ++ a ∷ []) q ≡ more_concurrent a (desk k bs q)
  unfolding desk Said through
  desk_more_concurrent bs low [] a h = refl
  desk_more_concurrent bs low (message.Operation m ∷ q) a h =
      let l = said_within m.revision a.place q h.1 in
      cc (
        meet_snoc m bs a l,
        leave_snoc m bs a l,
        desk_more_concurrent (leave k m bs) m.revision q (record { place = a.place; op = k.early a.op (meet k m bs).one }) h.1,
      )
  desk_more_concurrent bs low (message.Revision r ∷ q) a h =
      ap (λ x. desk k x q) (unseen_snoc r bs a (said_within r a.place q h.1)) ∙ desk_more_concurrent (unseen r bs) r q a h.1

  operations_in_snoc : (q : List (Message k.Op)) (m : Submission k.Op) → operations_in (q ++ message.Operation m ∷ []) ≡ suc (operations_in q)
  unfolding operations_in
  operations_in_snoc [] m = refl
  operations_in_snoc (message.Operation n ∷ q) m = ap suc (operations_in_snoc q m)
  operations_in_snoc (message.Revision r ∷ q) m = operations_in_snoc q m

  operations_in_report : (q : List (Message k.Op)) (r : ℕ) → operations_in (q ++ message.Revision r ∷ []) ≡ operations_in q
  unfolding operations_in
  operations_in_report [] r = refl
  operations_in_report (message.Operation n ∷ q) r = ap suc (operations_in_report q r)
  operations_in_report (message.Revision n ∷ q) r = operations_in_report q r

-- THE GRID
module _ {A : Type 0} (k : Kind A) {c s : ℕ} {p : List k.Op} {rest : List (Row k.Op)} {seat : Seat k.Op} {queue : List (Message k.Op)} where
  -- one more is performed and sent
  pub grid_performs : Grid k c s p rest seat queue → (o : k.Op) → Grid k c s (p ++ o ∷ []) rest seat (queue ++ message.Operation (record { revision = s; op = o }) ∷ [])
  grid_performs g o =
      let more : run k c s (p ++ o ∷ []) rest ≡ more_out k o (run k c s p rest) = run_more_out k c s p rest o (omega (arith, g.count)) in
      let way = desk_more_queue k seat.concurrent queue (record { revision = s; op = o }) in
      let l : List (Entry k.Op) = (desk k seat.concurrent queue).left in
      record {
        outs = cc;
        tops = cc (unseen_replaced s l (through k.late k.early o (operations (unseen s l))).others);
        count = omega (arith, operations_in_snoc k queue (record { revision = s; op = o }), length-append p (o ∷ []));
        said = said_snoc k seat.said s queue _ refl g.said;
      }

  -- the client sends its revision
  pub grid_reports : Grid k c s p rest seat queue → Grid k c s p rest seat (queue ++ message.Revision s ∷ [])
  grid_reports g =
      let way = desk_more_revision k seat.concurrent queue s in
      let n : s ≤ s = omega arith in
      record {
        outs = cc;
        tops = cc (unseen_later s s (desk k seat.concurrent queue).left n);
        count = omega (arith, operations_in_report k queue s);
        said = said_snoc k seat.said s queue _ refl g.said;
      }

  -- another's entry comes to the end of the history
  pub grid_other : Grid k c s p rest seat queue → seat.connected ≡ true → (e : Row k.Op) → e.by ≢ c → {n : ℕ} → n ≡ s + length rest →
      Grid k c s p (rest ++ e ∷ []) (told (record { place = n; op = e.op }) seat) queue
  grid_other g h e d {n} l =
      let more = run_snoc_other k c s n p rest e d l in
      let a : Entry k.Op = record { place = n; op = e.op } in
      let way = desk_more_concurrent k seat.concurrent seat.said queue a (said_higher k seat.said s n queue (omega arith) g.said) in
      let m : s ≤ n = omega arith in
      let b : Entry k.Op = record { place = n; op = (over k e.op (desk k seat.concurrent queue).comes).one } in
      let grown : Seat k.Op = record { connected = true; said = seat.said; concurrent = seat.concurrent ++ a ∷ [] } in
      subst (λ z. Grid k c s p (rest ++ e ∷ []) z queue) (sym (cond-true seat.connected grown seat h)) (record {
        outs = cc;
        tops = cc (unseen_snoc s (desk k seat.concurrent queue).left b m);
        count = omega (arith, taken_snoc_other c rest e d);
        said = g.said;
      })

  -- the server takes the oldest operation that is under way
  pub grid_own : {m : Submission k.Op} → Grid k c s p rest seat (message.Operation m ∷ queue) → (e : Row k.Op) → e.by ≡ c →
      Grid k c s p (rest ++ e ∷ []) (sender k m seat) queue
  unfolding desk Said operations_in
  grid_own g e h =
      let less = run_snoc_own k c s p rest e h in
      record {
        outs = cc;
        tops = cc;
        count = omega (arith, taken_snoc_own c rest e h);
        said = g.said.1;
      }

  -- it hears a revision
  pub grid_hears : {r : ℕ} → Grid k c s p rest seat (message.Revision r ∷ queue) → Grid k c s p rest (heard r seat) queue
  unfolding desk Said operations_in
  grid_hears g = record { outs = g.outs; tops = g.tops; count = g.count; said = g.said.1 }

  -- what the server takes next is the first of what comes
  pub grid_head : {m : Submission k.Op} → Grid k c s p rest seat (message.Operation m ∷ queue) →
      ((run k c s p rest).out ≡ (arrival k m seat).one ∷ drop 1 (run k c s p rest).out) × (seat.said ≤ m.revision) × (m.revision ≤ s)
  unfolding desk Said
  grid_head {m} g =
      (g.outs ∙ ap (λ l. (arrival k m seat).one ∷ l) (sym (ap (drop 1) g.outs)), g.said.0, said_within k m.revision s queue g.said.1)

  pub grid_heard : {r : ℕ} → Grid k c s p rest seat (message.Revision r ∷ queue) → (seat.said ≤ r) × (r ≤ s)
  unfolding Said
  grid_heard {r} g = (g.said.0, said_within k r s queue g.said.1)

  -- the client sees the next entry: another's
  pub grid_sees : {e : Row k.Op} → Grid k c s p (e ∷ rest) seat queue → e.by ≢ c → Grid k c (suc s) (over k e.op p).others rest seat queue
  grid_sees {e} g d =
      let more = run_other k c s p e rest d in
      let q = over k e.op p in
      let l : s < suc s = omega arith in
      let m : s ≤ suc s = omega arith in
      record {
        outs = cc;
        tops = cc (
          run_unseen k c (suc s) q.others rest,
          unseen_out (suc s) (record { place = s; op = q.one }) (run k c (suc s) q.others rest).top l,
          unseen_later s (suc s) (desk k seat.concurrent queue).left m,
        );
        count = omega (arith, taken_other c e rest d, length_others k.early k.late e.op p);
        said = said_higher k seat.said s (suc s) queue (omega arith) g.said;
      }

  -- its own
  pub grid_sees_own : {e : Row k.Op} → Grid k c s p (e ∷ rest) seat queue → e.by ≡ c → Grid k c (suc s) (drop 1 p) rest seat queue
  grid_sees_own {e} g h =
      let less = run_own k c s p e rest h in
      let l : s ≤ suc s = omega arith in
      record {
        outs = cc;
        tops = cc (run_unseen k c (suc s) (drop 1 p) rest, unseen_later s (suc s) (desk k seat.concurrent queue).left l);
        count = omega (arith, taken_own c e rest h, length-drop 1 p);
        said = said_higher k seat.said s (suc s) queue (omega arith) g.said;
      }

module _ {A : Type 0} (k : Kind A) where
  -- a client that has just joined
  pub grid_joins : (c s : ℕ) → Grid k c s [] [] (joined_at s) []
  unfolding run desk Said operations_in count_of unseen
  grid_joins c s = record { outs = refl; tops = refl; count = refl; said = omega arith }
