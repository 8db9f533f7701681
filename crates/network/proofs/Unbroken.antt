-- In runs in which no connection ends nothing is ever lost, and what has left a screen never stands there again.
use Rattle.std.proofs.Common.{◌≡◌, ℕ, ◌+◌, ◌<◌, [], length, take, None, sym, refl, ap, ◌∙◌, ⊎_elim, arith}
use Rattle.std.proofs.lemmas.List.{take_all, length-map}
use Rattle.std.proofs.lemmas.Bool.{cases_lt}
use Rattle.operation.specs.Letters.{◌∈◌}
use Rattle.operation.specs.Laws.{Kind, Laws}
use Rattle.network.specs.Runs.{Row, Life, Net, at, start, performing, reporting, with_queue, seeing, newborn, Current, Connected, Step, performs, reports, takes, hears, sees, joins, ends, crashes, Calm, PathBy, here, onward}
use Rattle.network.specs.OneRecord.{Quiescent, Quiesces, taken_of, Convergence, CanQuiesce, NeverBack, TakenWasPerformed, Unbroken, UnbrokenRecord}
use Rattle.network.proofs.Invariants.{Good}
use Rattle.network.proofs.Seats.{everywhere, connected_current}
use Rattle.network.proofs.Paths.{path_append, as_path}
use Rattle.network.proofs.Nets.{good}
use Rattle.network.proofs.Growth.{grown}

module _ {A : Type 0} (k : Kind A) (l : Laws k) (converge : Convergence k) (quiesce : CanQuiesce k) (back : NeverBack k) (taken : TakenWasPerformed k) where
  abbrev Unended : Net k → Type 0
  Unended n = (c : ℕ) → c < n.connections → (n.lives c).ended ≡ None

  -- a life that is changed and goes on
  still : (n : Net k) (c : ℕ) (v : Life k) → (c < n.connections → v.ended ≡ None) → Unended n → (j : ℕ) → j < n.connections → (at c v n.lives j).ended ≡ None
  still n c v h u = everywhere (λ j (v : Life k). j < n.connections → v.ended ≡ None) c v n.lives h (λ j ne. u j)

  unended_step : (n m : Net k) (s : Step k n m) → Unbroken k n m s → Unended n → Unended m
  unended_step n _ (performs c o a b f x y) w u = still n c (performing k o (n.lives c)) (u c) u
  unended_step n _ (reports c a) w u = still n c (reporting k (n.lives c)) (u c) u
  unended_step n _ (takes c m rest a e) w u = still n c (with_queue k rest (n.lives c)) (u c) u
  unended_step n _ (hears c r rest a e) w u = still n c (with_queue k rest (n.lives c)) (u c) u
  unended_step n _ (sees c e f g a h i s) w u = still n c (seeing k c e (n.lives c)) (u c) u
  unended_step n _ (joins p i a b) w u =
      everywhere (λ j (v : Life k). j < n.connections + 1 → v.ended ≡ None) n.connections (newborn k p i n.server.text (length n.server.history)) n.lives
      (λ h. refl) (λ j ne h. u j (omega arith))
  unended_step n _ (ends c a) w u = absurd w
  unended_step n _ crashes w u = absurd w

  unended : {n : Net k} → PathBy k (Unbroken k) (start k) n → Unended n
  unended here = λ c h. absurd (omega arith)
  unended (onward p s w) = unended_step _ _ s w (unended p)

  good_of : (n : Net k) → PathBy k (Unbroken k) (start k) n → Good k n
  good_of n p = good k l n (as_path k p)

  connected : (n : Net k) → PathBy k (Unbroken k) (start k) n → (c : ℕ) → c < n.connections → Connected k n c
  connected n p c h = (good_of n p).seated.unended c h (unended p c h)

  -- so each client has one connection
  current : (n : Net k) → PathBy k (Unbroken k) (start k) n → (c : ℕ) → c < n.connections → Current k n c
  current n p c h = connected_current k n (good_of n p).seated c (connected n p c h)

  converges : (n : Net k) → PathBy k (Unbroken k) (start k) n → Quiescent k n → (c : ℕ) → c < n.connections →
      ((n.lives c).replica.text ≡ n.server.text) × ((n.lives c).replica.pending ≡ [])
  converges n p q c h = let r = q c (current n p c h) in converge n (as_path k p) c r.0 r.1 r.2

  all_taken : (n : Net k) → PathBy k (Unbroken k) (start k) n → Quiescent k n → (c : ℕ) → taken_of c n.rows ≡ length (n.lives c).deeds
  all_taken n p q c = ⊎_elim
      (λ h. let g = good_of n p in
      let a = g.alive c h in
      let r = q c (current n p c h) in
      let e : take (n.lives c).replica.revision n.rows ≡ n.rows = take_all (n.lives c).replica.revision n.rows
      (omega (arith, r.2, ap length g.recorded.history, length-map n.rows (λ (w : Row k.Op). w.op))) in
      let none : length (n.lives c).replica.pending ≡ 0 = ap length (converge n (as_path k p) c r.0 r.1 r.2).1 in
      omega (arith, a.performed, ap (taken_of c) e, none))
      (λ h. let u = (good_of n p).seated.unused c h in
      let z : length (n.lives c).deeds ≡ 0 = ap (λ (v : Life k). length v.deeds) u.0 in
      omega (arith, taken.no_more n (as_path k p) c, z))
      (cases_lt c n.connections)

  quiesces : (n : Net k) → PathBy k (Unbroken k) (start k) n → Quiesces k (Calm k) n
  quiesces n p = quiesce.connected n (as_path k p) (λ c u. connected n p c u.0)

  never_back : (n m o : Net k) → PathBy k (Unbroken k) (start k) n → PathBy k (Unbroken k) n m → PathBy k (Unbroken k) m o → (b c d : ℕ) → Current k n b → Current k m c →
      Current k o d → (n.lives b).client ≡ (o.lives d).client → (m.lives c).client ≡ (o.lives d).client → (x : A) →
      x ∈ k.letters (n.lives b).replica.text → (x ∈ k.letters (m.lives c).replica.text → ⊥) → x ∈ k.letters (o.lives d).replica.text → ⊥
  never_back n m o p q r b c d u v w eb ec x y h z =
      let lost = back.of_screen n m o (as_path k p) (as_path k q) (as_path k r) b c d u v w eb ec x y h z in
      let g = grown k l m o (as_path k (path_append k _ p q)) (as_path k r) in
      (current o (path_append k _ (path_append k _ p q) r) c (omega (arith, lost.earlier, w.0))).1 d lost.earlier w.0 (sym ec ∙ sym (g.lives c v.0).client)

  pub unbroken : UnbrokenRecord k
  unbroken = record { connected = connected; converges = converges; quiesces = quiesces; all_taken = all_taken; never_back = never_back }
