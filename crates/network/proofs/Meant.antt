-- In every net that is reached, entries and pending operations mean what was done on the screens.
-- So a letter stands in a text only if it was typed and nothing has struck it, and until something strikes it; and no more is taken than was performed.
use Rattle.std.proofs.Common.{◌≡◌, ℕ, zero, suc, ◌+◌, ◌<◌, ◌≤◌, ◌⊎◌, List, [], ◌∷◌, ◌++◌, length, take, drop, get_or, ◌==◌, sym, refl, ap, ◌∙◌, subst, subst₂, inl, inr, ⊎_elim, arith, le_trans}
use Rattle.std.proofs.lemmas.Bool.{cond_both, cond-true, eq-eqb, eqb-true, eqb-false}
use Rattle.std.proofs.lemmas.List.{map-append, map_push, length-append, length-map, take-append-drop, take-append-le, drop-append-le, take_all, drop_at, length-take-le, drop-drop}
use Rattle.operation.specs.declared.entry.Submission.{Submission}
use Rattle.operation.specs.Letters.{◌∈◌, Once}
use Rattle.operation.specs.Laws.{Kind, Laws, apply_all}
use Rattle.client.specs.Replicas.{Replica}
use Rattle.server.specs.Sessions.{ServerState}
use Rattle.network.specs.declared.message.Message.{Message}
use Rattle.network.specs.declared.message.Message.TheVariants as message
use Rattle.network.specs.Runs.{Row, ops, Deed, Life, Net, at, Connected, Sendable, start, newborn, ended_at, performing, with_queue, with_replica, seeing, reporting, entry_of, after_performing, after_taking, after_seeing, after_joining, Step, performs, reports, takes, hears, sees, joins, ends, crashes, here, onward, Reachable}
use Rattle.network.specs.OneRecord.{taken_of, Viewer, server, life, text_of, Exists, applied, PutIn, Struck, OnlyIfTyped, UntilStruck}
use Rattle.network.proofs.Invariants.{puts_all, put_in, replay, Chain, run, Ran, horizon, horizon_of, Alive, Good, done_by, Meant}
use Rattle.network.proofs.Letters.{mem_left, mem_right, mem_parts, mem_of, puts_all_append, apply_all_append, typed_among}
use Rattle.network.proofs.Grid.{taken_append, run_own, run_other, grid_head}
use Rattle.network.proofs.Stacks.{none_at_first, clean_at_first, stack_known}
use Rattle.network.proofs.Chains.{chain_length, chain_append, chain_front, chain_first, chain_more, copy_chain, stands_put, stands_unstruck, put_until}
use Rattle.network.proofs.DoneBy.{done_same, done_append, done_snoc, done_short, done_enough, done_of, of_done}
use Rattle.network.proofs.Seats.{everywhere}
use Rattle.network.proofs.Copies.{grid_of}
use Rattle.network.proofs.Lists.{mem_take, mem_drop, mem_split, take_on, next_at, next_front}
use Rattle.network.proofs.Lives.{sendable_within}
use Rattle.network.proofs.Nets.{not_typed, good}

module _ {A : Type 0} (k : Kind A) where
  abbrev RowsMeant : List (Row k.Op) → (ℕ → Life k) → Type 0
  RowsMeant rows lives = Chain k [] (ops rows) k.empty (done_by k (λ c. (lives c).deeds) rows)

  -- operations of connection c on top of these entries, and what was done there
  abbrev MeantAt : ℕ → List (Deed k) → List (Row k.Op) → List k.Op → Type 0
  MeantAt c ds rows p = Chain k (put_in k rows) p (replay k rows) (drop (taken_of c rows) ds)

  abbrev LifeMeant : ℕ → List (Row k.Op) → Life k → Type 0
  LifeMeant c rows v = MeantAt c v.deeds (take v.replica.revision rows) v.replica.pending

  rows_same : (rows : List (Row k.Op)) (f g : ℕ → Life k) → ((c : ℕ) → take (taken_of c rows) (f c).deeds ≡ take (taken_of c rows) (g c).deeds) → RowsMeant rows f →
      RowsMeant rows g
  rows_same rows f g h b = subst (Chain k [] (ops rows) k.empty) (done_same k rows (λ c. (f c).deeds) (λ c. (g c).deeds) h) b

  -- one life is changed
  rows_at : (rows : List (Row k.Op)) (f : ℕ → Life k) (c : ℕ) (v : Life k) → take (taken_of c rows) (f c).deeds ≡ take (taken_of c rows) v.deeds → RowsMeant rows f →
      RowsMeant rows (at c v f)
  rows_at rows f c v e = rows_same rows f (at c v f) (everywhere (λ j w. take (taken_of j rows) (f j).deeds ≡ take (taken_of j rows) w.deeds) c v f e (λ j _. refl))

  -- lives that keep their deeds and replicas
  abbrev Alike : (n : Net k) → ℕ → Life k → Type 0
  Alike n j v = (v.deeds ≡ (n.lives j).deeds) × (v.replica ≡ (n.lives j).replica)

  meant_still : (n : Net k) (v : ServerState k) (lives : ℕ → Life k) → ((j : ℕ) → Alike n j (lives j)) → Meant k n →
      Meant k (record { server = v; rows = n.rows; lives = lives; connections = n.connections; typed = n.typed })
  meant_still n v lives h b = record {
    rows = rows_same n.rows n.lives lives (λ c. ap (take (taken_of c n.rows)) (sym (h c).0)) b.rows;
    pending = λ c u. subst₂ (λ (ds : List (Deed k)) (r : Replica k). MeantAt c ds (take r.revision n.rows) r.pending) (sym (h c).0) (sym (h c).1) (b.pending c u);
  }

  -- no entry without a deed
  rows_full : (n : Net k) → Meant k n → length (done_by k (λ c. (n.lives c).deeds) n.rows) ≡ length n.rows
  rows_full n b = chain_length k [] (ops n.rows) k.empty _ b.rows ∙ length-map n.rows (λ (r : Row k.Op). r.op)

  rows_enough : (n : Net k) → Meant k n → (c : ℕ) → taken_of c n.rows ≤ length (n.lives c).deeds
  rows_enough n b = done_enough k n.rows (λ c. (n.lives c).deeds) (omega (arith, rows_full n b))

  meant_start : Meant k (start k)
  unfolding Chain done_by
  meant_start = record { rows = tt; pending = λ c u. absurd (omega arith) }

  none_meant : (known : List A) (t : k.Text) (j : ℕ) → Chain k known [] t (drop j [])
  unfolding Chain
  none_meant known t zero = tt
  none_meant known t (suc j) = tt

  module _ (l : Laws k) (n : Net k) (g : Good k n) (b : Meant k n) where
    meant_performs : (c : ℕ) (o : k.Op) → Meant k (after_performing k c o n)
    meant_performs c o = record {
      rows = rows_at n.rows n.lives c v (sym (take-append-le (taken_of c n.rows) (n.lives c).deeds (d ∷ []) (rows_enough n b c))) b.rows;
      pending = everywhere (λ j w. j < n.connections → LifeMeant j n.rows w) c v n.lives more (λ j _. b.pending j);
    }
      where
        v : Life k
        v = performing k o (n.lives c)

        d : Deed k
        d = record { op = o; before = (n.lives c).replica.text }

        more : c < n.connections → LifeMeant c n.rows v
        more u =
            let a = g.alive c u in
            let r = (n.lives c).replica in
            let s = taken_of c (take r.revision n.rows) in
            subst (Chain k (put_in k (take r.revision n.rows)) (r.pending ++ o ∷ []) (replay k (take r.revision n.rows)))
            (ap (λ t. drop s (n.lives c).deeds ++ record { op = o; before = t } ∷ []) (sym a.copy.text) ∙ sym
            (drop-append-le s (n.lives c).deeds (d ∷ []) (omega (arith, a.performed))))
            (chain_more k l _ r.pending _ (drop s (n.lives c).deeds) o (λ x m. stack_known k l (n.lives c).site _ _ r.pending a.copy.stack m) (b.pending c u))

    meant_joins : (p i : ℕ) → Meant k (after_joining k p i n)
    meant_joins p i = record {
      rows = rows_at n.rows n.lives n.connections (newborn k p i n.server.text (length n.server.history))
          (ap (λ (v : Life k). take (taken_of n.connections n.rows) v.deeds) (g.seated.unused n.connections (omega arith)).0) b.rows;
      pending = everywhere (λ j w. j < n.connections + 1 → LifeMeant j n.rows w) n.connections (newborn k p i n.server.text (length n.server.history)) n.lives
          (λ _. none_meant _ _ _) (λ j ne u. b.pending j (omega arith));
    }

    -- what is pending in connection c, past the entries up to u, which are to come to it
    life_comes : (c : ℕ) → c < n.connections → (u : ℕ) → (n.lives c).replica.revision ≤ u → u ≤ horizon_of k n.rows (n.lives c) →
        MeantAt c (n.lives c).deeds (take u n.rows)
        (run k c (n.lives c).replica.revision (n.lives c).replica.pending (drop (n.lives c).replica.revision (take u n.rows))).out
    life_comes c h u from to =
        let v = (n.lives c).replica in
        let ds = (n.lives c).deeds in
        subst (Chain k (put_in k (take u n.rows)) (run k c v.revision v.pending (drop v.revision (take u n.rows))).out (replay k (take u n.rows)))
        (drop-drop _ (taken_of c (take v.revision n.rows)) ds ∙ ap (λ j. drop j ds)
        (sym (ap (taken_of c) (take_on v.revision u n.rows from) ∙ taken_append c (take v.revision n.rows) _)))
        (copy_chain k l (g.alive c h).copy g.recorded.fitting g.recorded.once (not_typed k l n g.lettered c) u from to _ (b.pending c h))

    meant_sees : (c : ℕ) (e : Row k.Op) (before after : List (Row k.Op)) → n.rows ≡ before ++ e ∷ after → length before ≡ (n.lives c).replica.revision →
        Sendable k (n.lives c).ended (n.lives c).replica.revision → Meant k (after_seeing k c e n)
    unfolding run
    meant_sees c e before after q f w = record {
      rows = rows_at n.rows n.lives c (seeing k c e v) refl b.rows;
      pending = everywhere (λ j w. j < n.connections → LifeMeant j n.rows w) c (seeing k c e v) n.lives more (λ j _. b.pending j);
    }
      where
        v : Life k
        v = n.lives c

        s : ℕ
        s = v.replica.revision

        place : (get_or n.rows s e ≡ e) × (s < length n.rows)
        place = next_at n.rows e before after s q f

        more : c < n.connections → LifeMeant c n.rows (seeing k c e v)
        more u =
            let one : drop s (take (s + 1) n.rows) ≡ e ∷ [] = ap (drop s) (next_front n.rows e s place.0 place.1) ∙ drop_at (take s n.rows) (e ∷ []) s
            (length-take-le s n.rows (omega (arith, place.1))) in
            let m : MeantAt c v.deeds (take (s + 1) n.rows) (run k c s v.replica.pending (e ∷ [])).out =
            subst (λ es. MeantAt c v.deeds (take (s + 1) n.rows) (run k c s v.replica.pending es).out) one
            (life_comes c u (s + 1) (omega arith) (omega (arith, sendable_within k place.1 v.ended w))) in
            cond_both (e.by == c) _ _ (λ r. LifeMeant c n.rows (with_replica k r v))
            (λ t. subst (λ (z : Ran k). MeantAt c v.deeds (take (s + 1) n.rows) z.out) (run_own k c s v.replica.pending e [] (eqb-true _ _ t)) m)
            (λ t. subst (λ (z : Ran k). MeantAt c v.deeds (take (s + 1) n.rows) z.out) (run_other k c s v.replica.pending e [] (eqb-false _ _ t)) m)

    meant_takes : (c : ℕ) (m : Submission k.Op) (rest : List (Message k.Op)) → Connected k n c → (n.lives c).queue ≡ message.Operation m ∷ rest →
        Meant k (after_taking k c m rest n)
    meant_takes c m rest on q = record {
      rows = rows_at (n.rows ++ e ∷ []) n.lives c (with_queue k rest v) refl more;
      pending = everywhere (λ j w. j < n.connections → LifeMeant j (n.rows ++ e ∷ []) w) c (with_queue k rest v) n.lives (still c) (λ j _. still j);
    }
      where
        v : Life k
        v = n.lives c

        s : ℕ
        s = v.replica.revision

        e : Row k.Op
        e = entry_of k c m n

        still : (j : ℕ) → j < n.connections → LifeMeant j (n.rows ++ e ∷ []) (n.lives j)
        still j u =
            let a = g.alive j u in
            subst (λ z. MeantAt j (n.lives j).deeds z (n.lives j).replica.pending)
            (sym (take-append-le (n.lives j).replica.revision n.rows (e ∷ []) (le_trans a.copy.seen a.copy.within))) (b.pending j u)

        u : c < n.connections
        u = g.seated.given c on

        a : Alive k c n.rows (n.server.seats c) v
        a = g.alive c u

        coming : MeantAt c v.deeds n.rows (run k c s v.replica.pending (drop s n.rows)).out
        coming = subst (λ z. MeantAt c v.deeds z (run k c s v.replica.pending (drop s z)).out) (take_all (length n.rows) n.rows (omega arith))
            (life_comes c u (length n.rows) (le_trans a.copy.seen a.copy.within) (omega (arith, ap (horizon k (length n.rows)) (a.unended on))))

        more : RowsMeant (n.rows ++ e ∷ []) n.lives
        more = subst₂ (λ os ds. Chain k [] os k.empty ds) (sym (map_push (λ (r : Row k.Op). r.op) n.rows e)) (sym (done_snoc k n.rows e (λ c. (n.lives c).deeds)))
            (chain_append k [] (ops n.rows) (e.op ∷ []) k.empty _ _ b.rows (chain_first k (put_in k n.rows) e.op _ (replay k n.rows) (drop (taken_of c n.rows) v.deeds)
            (subst (λ p. MeantAt c v.deeds n.rows p) (grid_head k (grid_of k a on q)).0 coming)))

  module _ (l : Laws k) where
    pub meant_step : (n m : Net k) → Good k n → Meant k n → Step k n m → Meant k m
    meant_step n _ g b (performs c o u s f x a) = meant_performs l n g b c o
    meant_step n _ g b (reports c u) = meant_still n _ _ (everywhere (Alike n) c (reporting k (n.lives c)) n.lives (refl, refl) (λ j _. (refl, refl))) b
    meant_step n _ g b (takes c m rest u q) = meant_takes l n g b c m rest u q
    meant_step n _ g b (hears c r rest u q) = meant_still n _ _ (everywhere (Alike n) c (with_queue k rest (n.lives c)) n.lives (refl, refl) (λ j _. (refl, refl))) b
    meant_step n _ g b (sees c e before after u q f s) = meant_sees l n g b c e before after q f s
    meant_step n _ g b (joins p i u v) = meant_joins l n g b p i
    meant_step n _ g b (ends c u) = meant_still n _ _
        (everywhere (Alike n) c (ended_at k (length n.server.history) (n.lives c)) n.lives (refl, refl) (λ j _. (refl, refl))) b
    meant_step n _ g b crashes = meant_still n _ _ (λ j. (refl, refl)) b

    pub meant : (n : Net k) → Reachable k n → Meant k n
    meant _ here = meant_start
    meant n (onward r s _) = meant_step _ n (good k l _ r) (meant _ r) s

    pub taken_enough : (n : Net k) → Reachable k n → (c : ℕ) → taken_of c n.rows ≤ length (n.lives c).deeds
    taken_enough n r = rows_enough n (meant n r)

  -- A TEXT AND ALL THAT IT HAS HAD APPLIED
  record View (n : Net k) (v : Viewer) : Type 0 where
    os : List k.Op
    ds : List (Deed k)
    text : text_of k n v ≡ apply_all k os k.empty
    chain : Chain k [] os k.empty ds
    once : Once (puts_all k os)
    done : (d : Deed k) → d ∈ ds → (b : ℕ) × (d ∈ take (applied k n v b) (n.lives b).deeds)
    back : (d : Deed k) (b : ℕ) → d ∈ take (applied k n v b) (n.lives b).deeds → d ∈ ds

  module _ (n : Net k) (g : Good k n) (b : Meant k n) where
    deeds : ℕ → List (Deed k)
    deeds c = (n.lives c).deeds

    view_server : View n server
    unfolding deeds
    view_server = record {
      os = ops n.rows;
      ds = done_by k deeds n.rows;
      text = g.recorded.text;
      chain = b.rows;
      once = g.recorded.once;
      done = λ d m. done_of k n.rows deeds m;
      back = λ d c m. of_done k n.rows deeds c m;
    }

    -- the first entries, and their deeds
    rows_first : (s : ℕ) → Chain k [] (ops (take s n.rows)) k.empty (done_by k deeds (take s n.rows))
    unfolding deeds
    rows_first s = chain_front k [] (ops (take s n.rows)) (ops (drop s n.rows)) k.empty (done_by k deeds (take s n.rows))
        (done_by k (λ c. drop (taken_of c (take s n.rows)) (deeds c)) (drop s n.rows))
        (omega (
          arith,
          length-map (take s n.rows) (λ (r : Row k.Op). r.op),
          ap length split,
          ap length (take-append-drop s n.rows),
          length-append (take s n.rows) (drop s n.rows),
          rows_full n b,
          length-append (done_by k deeds (take s n.rows)) (done_by k (λ c. drop (taken_of c (take s n.rows)) (deeds c)) (drop s n.rows)),
          done_short k (take s n.rows) deeds,
          done_short k (drop s n.rows) (λ c. drop (taken_of c (take s n.rows)) (deeds c)),
        ))
        (subst₂ (λ os ds. Chain k [] os k.empty ds)
        (ap (λ (z : List (Row k.Op)). ops z) (sym (take-append-drop s n.rows)) ∙ map-append (λ (r : Row k.Op). r.op) (take s n.rows) (drop s n.rows)) split b.rows)
      where
        split : done_by k deeds n.rows ≡ done_by k deeds (take s n.rows) ++ done_by k (λ c. drop (taken_of c (take s n.rows)) (deeds c)) (drop s n.rows)
        split = ap (done_by k deeds) (sym (take-append-drop s n.rows)) ∙ done_append k (take s n.rows) (drop s n.rows) deeds

    view_life : (c : ℕ) → c < n.connections → View n (life c)
    unfolding deeds
    view_life c u = record {
      os = ops seen ++ r.pending;
      ds = done_by k deeds seen ++ drop t (deeds c);
      text = a.copy.text ∙ sym (apply_all_append k (ops seen) r.pending k.empty);
      chain = chain_append k [] (ops seen) r.pending k.empty (done_by k deeds seen) (drop t (deeds c)) (rows_first r.revision) (b.pending c u);
      once = subst Once (sym (puts_all_append k (ops seen) r.pending)) a.copy.stack.once;
      done = λ d m. ⊎_elim (λ x. let y = done_of k seen deeds x in (y.0, seen_done d y.0 y.1)) (λ x. (c, own_done d (mem_drop t (deeds c) x)))
          (mem_parts (done_by k deeds seen) m);
      back = λ d j m. cond_both (j == c) (length (deeds c)) (taken_of j seen) (λ i. d ∈ take i (deeds j) → d ∈ done_by k deeds seen ++ drop t (deeds c))
          (λ e x. ⊎_elim (λ y. mem_left (drop t (deeds c)) (of_done k seen deeds c y)) (λ y. mem_right (done_by k deeds seen) y)
          (mem_split t (deeds c) (subst (λ i. d ∈ deeds i) (eqb-true j c e) (mem_take _ (deeds j) x))))
          (λ e x. mem_left (drop t (deeds c)) (of_done k seen deeds j x)) m;
    }
      where
        a : Alive k c n.rows (n.server.seats c) (n.lives c)
        a = g.alive c u

        r : Replica k
        r = (n.lives c).replica

        seen : List (Row k.Op)
        seen = take r.revision n.rows

        t : ℕ
        t = taken_of c seen

        own_done : (d : Deed k) → d ∈ deeds c → d ∈ take (applied k n (life c) c) (deeds c)
        own_done d m = rw (cond-true (c == c) (length (deeds c)) t (eq-eqb c c refl), take_all (length (deeds c)) (deeds c) (omega arith)) m

        seen_done : (d : Deed k) (j : ℕ) → d ∈ take (taken_of j seen) (deeds j) → d ∈ take (applied k n (life c) j) (deeds j)
        seen_done d j m = cond_both (j == c) (length (deeds c)) (taken_of j seen) (λ i. d ∈ take i (deeds j))
            (λ e. subst (λ i. d ∈ take (length (deeds c)) (deeds i)) (sym (eqb-true j c e))
            (mem_of (sym (take_all (length (deeds c)) (deeds c) (omega arith))) (subst (λ i. d ∈ deeds i) (eqb-true j c e) (mem_take _ (deeds j) m))))
            (λ e. m)

    view : (v : Viewer) → Exists k n v → View n v
    view server u = view_server
    view (life c) u = view_life c u

    module _ (l : Laws k) (v : Viewer) (w : View n v) (x : A) where
      first_put : x ∈ k.letters (text_of k n v) → PutIn k n v x × (x ∈ n.typed)
      first_put m = ⊎_elim (λ e. absurd (none_at_first k l e))
          (λ p. let y = w.done p.deed p.done in (
            record { by = y.0; deed = p.deed; done = y.1; puts_it = p.puts_it },
            g.lettered.typed y.0 x (typed_among k (mem_take _ _ y.1) p.puts_it),
          ))
          (stands_put k l [] w.os k.empty w.ds w.chain (mem_of (ap k.letters w.text) m))

      not_struck : x ∈ k.letters (text_of k n v) → Struck k n v x → ⊥
      not_struck m s = stands_unstruck k l [] w.os k.empty w.ds w.chain (clean_at_first k l) (λ y e. absurd (none_at_first k l e)) w.once (mem_of (ap k.letters w.text) m)
          (record { deed = s.deed; done = w.back s.deed s.by s.done; strikes_it = s.strikes_it })

      there_or_struck : PutIn k n v x → x ∈ k.letters (text_of k n v) ⊎ Struck k n v x
      there_or_struck p = ⊎_elim (λ m. inl (mem_of (sym (ap k.letters w.text)) m))
          (λ s. let y = w.done s.deed s.done in inr (record { by = y.0; deed = s.deed; done = y.1; strikes_it = s.strikes_it }))
          (put_until k l [] w.os k.empty w.ds w.chain (record { deed = p.deed; done = w.back p.deed p.by p.done; puts_it = p.puts_it }))

  pub only_if_typed : Laws k → OnlyIfTyped k
  only_if_typed l n r v u x m =
      let g = good k l n r in
      let w = view n g (meant l n r) v u in
      let p = first_put n g (meant l n r) l v w x m in (p.1, p.0, not_struck n g (meant l n r) l v w x m)

  pub until_struck : Laws k → UntilStruck k
  until_struck l n r v u x p = let g = good k l n r in there_or_struck n g (meant l n r) l v (view n g (meant l n r) v u) x p
