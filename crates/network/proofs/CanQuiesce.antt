-- It can always come to where nothing is under way: who has no connection joins, the server takes and hears all, and everybody sees the whole history.
use Rattle.std.proofs.Common.{◌≡◌, ℕ, zero, suc, ◌+◌, ◌-◌, ◌<◌, ◌≤◌, ◌⊎◌, false, List, [], ◌∷◌, ◌++◌, length, ◌==◌, ◌≢◌, refl, sym, ap, ◌∙◌, subst, inl, inr, ⊎_elim, arith}
use Rattle.std.proofs.lemmas.Bool.{cond_both, cases_eq, cases_lt, cases_order, cases_Bool, both_ways}
use mathlib.Core.List.Memᴰ
use Rattle.operation.specs.Letters.{◌∈◌}
use Rattle.operation.specs.Laws.{Kind, Laws}
use Rattle.client.specs.Replicas.{Replica, confirmed, received}
use Rattle.server.specs.Sessions.{Seat, joined_at, heard}
use Rattle.network.specs.declared.message.Message.{Message}
use Rattle.network.specs.declared.message.Message.TheVariants as message
use Rattle.network.specs.Runs.{Life, Net, at, with_queue, seeing, after_taking, after_hearing, after_seeing, after_joining, newborn, Current, Connected, Sendable, Step, performs, reports, takes, hears, sees, joins, ends, crashes, Quiet, Calm, PathBy, here, onward, Reachable}
use Rattle.network.specs.OneRecord.{NoOperation, Quiescent, Quiesces, Settled, Settles, CanQuiesce}
use Rattle.network.proofs.Invariants.{Seated, Alive}
use Rattle.network.proofs.Copies.{told_connected}
use Rattle.network.proofs.Seats.{at_place, at_other, everywhere, where_taken, connected_current}
use Rattle.network.proofs.Paths.{Rule, path_append, path_weaker, reach_path}
use Rattle.network.proofs.Nets.{good, recorded_length}

-- what is the same of the value before and after is the same everywhere
at_field : {X Y : Type 0} (g : X → Y) (i : ℕ) (x : X) (f : ℕ → X) → g x ≡ g (f i) → (j : ℕ) → g (at i x f j) ≡ g (f j)
at_field g i x f e = everywhere (λ j y. g y ≡ g (f j)) i x f e (λ j ne. refl)

-- the element at a place, with what is before it and behind it
record Place {X : Type 0} (xs : List X) (i : ℕ) : Type 0 where
  element : X
  before : List X
  after : List X
  whole : xs ≡ before ++ element ∷ after
  long : length before ≡ i

place : {X : Type 0} (xs : List X) (i : ℕ) → i < length xs → Place xs i
place [] i l = absurd (omega arith)
place (x ∷ xs) zero l = record { element = x; before = []; after = xs; whole = refl; long = refl }
place (x ∷ xs) (suc i) l = let p = place xs i (omega arith) in
    record { element = p.element; before = x ∷ p.before; after = p.after; whole = ap (λ ys. x ∷ ys) p.whole; long = ap suc p.long }

-- above all values of a function up to a place
above : (n : ℕ) (f : ℕ → ℕ) → (b : ℕ) × ((c : ℕ) → c < n → f c < b)
above zero f = (0, λ c h. absurd (omega arith))
above (suc n) f = let r = above n f in (
  r.0 + suc (f n),
  λ c h. ⊎_elim
      (λ (e : c ≡ n). let a : f c ≡ f n = ap f e in omega arith) (λ ne. let a = r.1 c (omega arith) in omega arith) (cases_eq c n),
)

-- a later place has the same value, or none has
later : (f : ℕ → ℕ) (c n : ℕ) → ((d : ℕ) × (c < d) × (d < n) × (f d ≡ f c)) ⊎ ((d : ℕ) → c < d → d < n → f d ≢ f c)
later f c zero = inr (λ d g h e. omega arith)
later f c (suc n) = ⊎_elim
    (λ (r : (d : ℕ) × (c < d) × (d < n) × (f d ≡ f c)). inl (r.0, r.1, omega arith, r.3))
    (λ none. ⊎_elim
    (λ (h : c < n). ⊎_elim (λ e. inl (n, h, omega arith, e))
    (λ ne. inr (λ d g b. ⊎_elim (λ (e : d ≡ n). subst (λ x. f x ≢ f c) (sym e) ne) (λ nd. none d g (omega arith)) (cases_eq d n)))
    (cases_eq (f n) (f c)))
    (λ h. inr (λ d g b e. omega arith)) (cases_lt c n))
    (later f c n)

module _ {A : Type 0} (k : Kind A) where
  calm_quiet : (n m : Net k) (s : Step k n m) → Calm k n m s → Quiet k n m s
  calm_quiet n _ (performs c o u s f x a) q = q
  calm_quiet n _ (reports c u) q = tt
  calm_quiet n _ (takes c m rest u e) q = tt
  calm_quiet n _ (hears c r rest u e) q = tt
  calm_quiet n _ (sees c e f g u h m s) q = tt
  calm_quiet n _ (joins p i u v) q = tt
  calm_quiet n _ (ends c u) q = q
  calm_quiet n _ crashes q = q

  -- what calm steps leave as it was
  record Same (n m : Net k) : Type 0 where
    connections : m.connections ≡ n.connections
    connected : (c : ℕ) → (m.server.seats c).connected ≡ (n.server.seats c).connected
    clients : (c : ℕ) → (m.lives c).client ≡ (n.lives c).client

  same_step : (n m : Net k) (s : Step k n m) → Calm k n m s → Same n m
  same_step n _ (performs c o u s f x a) q = absurd q
  same_step n _ (reports c u) q = absurd q
  same_step n _ (takes c m rest u e) q = record {
    connections = refl;
    connected = where_taken k (λ j s l. s.connected ≡ (n.server.seats j).connected) n c _ _ (n.lives c) refl (λ j ne. told_connected k _ (n.server.seats j));
    clients = at_field (λ (l : Life k). l.client) c (with_queue k rest (n.lives c)) n.lives refl;
  }
  same_step n _ (hears c r rest u e) q = record {
    connections = refl;
    connected = at_field (λ (s : Seat k.Op). s.connected) c (heard r (n.server.seats c)) n.server.seats refl;
    clients = at_field (λ (l : Life k). l.client) c (with_queue k rest (n.lives c)) n.lives refl;
  }
  same_step n _ (sees c e f g u h m s) q = record {
    connections = refl;
    connected = λ j. refl;
    clients = at_field (λ (l : Life k). l.client) c (seeing k c e (n.lives c)) n.lives refl;
  }
  same_step n _ (joins p i u v) q = absurd q
  same_step n _ (ends c u) q = absurd q
  same_step n _ crashes q = absurd q

  same : {n m : Net k} → PathBy k (Calm k) n m → Same n m
  same here = record { connections = refl; connected = λ c. refl; clients = λ c. refl }
  same (onward {m} {o} p s h) = let a = same p in let b = same_step m o s h in record {
    connections = b.connections ∙ a.connections;
    connected = λ c. b.connected c ∙ a.connected c;
    clients = λ c. b.clients c ∙ a.clients c;
  }

  -- WHAT CAN BE COME TO
  record Comes (Q : Rule k) (n : Net k) (P : Net k → Type 0) : Type 0 where
    to : Net k
    path : PathBy k Q n to
    holds : P to

  comes_on : {Q : Rule k} {n : Net k} {P R : Net k → Type 0} → Comes Q n P → ((m : Net k) → PathBy k Q n m → P m → Comes Q m R) → Comes Q n R
  comes_on a f = let b = f a.to a.path a.holds in record { to = b.to; path = path_append k _ a.path b.path; holds = b.holds }

  comes_as : {Q : Rule k} {n : Net k} (P R : Net k → Type 0) → Comes Q n P → ((m : Net k) → PathBy k Q n m → P m → R m) → Comes Q n R
  comes_as P R a f = record { to = a.to; path = a.path; holds = f a.to a.path a.holds }

  comes_by : {Q : Rule k} {n m : Net k} (P R : Net k → Type 0) (s : Step k n m) → Q n m s → Comes Q m P → ((o : Net k) → P o → R o) → Comes Q n R
  comes_by P R s q a f = record { to = a.to; path = path_append k _ (onward here s q) a.path; holds = f a.to a.holds }

  -- for each connection below a bound in its turn, where that for one spoils it for no other
  abbrev Turn : (ℕ → Net k → Type 0) → (Net k → Type 0) → Net k → ℕ → Net k → Type 0
  Turn P I m c o = P c o × I o × ((j : ℕ) → P j m → P j o)

  each : {Q : Rule k} (P : ℕ → Net k → Type 0) (I : Net k → Type 0) → ((c : ℕ) (m : Net k) → I m → Comes Q m (Turn P I m c)) →
      (b : ℕ) (n : Net k) → I n → Comes Q n (λ o. ((c : ℕ) → c < b → P c o) × I o)
  each P I f zero n i = record { to = n; path = here; holds = ((λ c h. absurd (omega arith)), i) }
  each P I f (suc b) n i = comes_on (each P I f b n i) (λ m _ a. comes_as (Turn P I m b) (λ o. ((c : ℕ) → c < suc b → P c o) × I o) (f b m a.1)
      (λ o _ t. ((λ c h. ⊎_elim (λ (e : c ≡ b). subst (λ d. P d o) (sym e) t.0) (λ ne. t.2 c (a.0 c (omega arith))) (cases_eq c b)), t.1)))

  -- THE SERVER takes and hears all that is under way in a connection
  abbrev Emptied : Net k → ℕ → Net k → Type 0
  Emptied m c o = ((o.lives c).queue ≡ []) × ((j : ℕ) → j ≢ c → o.lives j ≡ m.lives j)

  emptied_on : (c : ℕ) (ms : List (Message k.Op)) (n m : Net k) (s : Step k n m) → Calm k n m s →
      m.lives ≡ at c (with_queue k ms (n.lives c)) n.lives → Connected k n c →
      (Connected k m c → (m.lives c).queue ≡ ms → Comes (Calm k) m (Emptied m c)) → Comes (Calm k) n (Emptied n c)
  emptied_on c ms n m s q e u f =
      let x = with_queue k ms (n.lives c) in
      comes_by (Emptied m c) (Emptied n c) s q
      (f ((same_step n m s q).connected c ∙ u) (ap (λ (g : ℕ → Life k). (g c).queue) e ∙ ap (λ (l : Life k). l.queue) (at_place c c x n.lives refl)))
      (λ o a. (a.0, λ j ne. a.1 j ne ∙ ap (λ (g : ℕ → Life k). g j) e ∙ at_other c j x n.lives ne))

  empties : (c : ℕ) (ms : List (Message k.Op)) (n : Net k) → Connected k n c → (n.lives c).queue ≡ ms → Comes (Calm k) n (Emptied n c)
  empties c [] n u e = record { to = n; path = here; holds = (e, λ j ne. refl) }
  empties c (message.Operation o ∷ ms) n u e = emptied_on c ms n (after_taking k c o ms n) (takes c o ms u e) tt refl u (empties c ms (after_taking k c o ms n))
  empties c (message.Revision r ∷ ms) n u e = emptied_on c ms n (after_hearing k c r ms n) (hears c r ms u e) tt refl u (empties c ms (after_hearing k c r ms n))

module _ {A : Type 0} (k : Kind A) (l : Laws k) where
  -- A CLIENT sees all of the history
  abbrev Saw : Net k → ℕ → Net k → Type 0
  Saw m c o = ((o.lives c).replica.revision ≡ length o.rows) × (o.rows ≡ m.rows) ×
      ((o.lives c).queue ≡ (m.lives c).queue) × ((j : ℕ) → j ≢ c → o.lives j ≡ m.lives j)

  sees_all : (c d : ℕ) (n : Net k) → Reachable k n → Connected k n c → (n.lives c).replica.revision + d ≡ length n.rows → Comes k (Calm k) n (Saw n c)
  sees_all c zero n r u e = record { to = n; path = here; holds = (omega arith, refl, refl, λ j ne. refl) }
  sees_all c (suc d) n r u e =
      let a = (good k l n r).alive c ((good k l n r).seated.given c u) in
      let p = place n.rows (n.lives c).replica.revision (omega arith) in
      let s = sees c p.element p.before p.after (connected_current k n (good k l n r).seated c u) p.whole p.long
      (subst (λ z. Sendable k z (n.lives c).replica.revision) (sym (a.unended u)) tt) in
      let m = after_seeing k c p.element n in
      let x = seeing k c p.element (n.lives c) in
      let v = (n.lives c).replica in
      let one : (m.lives c).replica.revision ≡ v.revision + 1 = ap (λ (l : Life k). l.replica.revision) (at_place c c x n.lives refl)
      ∙ cond_both (p.element.by == c) (confirmed k v) (received k p.element.op v) (λ (q : Replica k). q.revision ≡ v.revision + 1) (λ _. refl) (λ _. refl) in
      comes_by k (Saw m c) (Saw n c) s tt (sees_all c d m (onward r s tt) u (omega arith))
      (λ o a. (a.0, a.1, a.2 ∙ ap (λ (l : Life k). l.queue) (at_place c c x n.lives refl), λ j ne. a.3 j ne ∙ at_other c j x n.lives ne))

  -- EVERY CLIENT HAS ITS CONNECTION
  abbrev Empty : ℕ → Net k → Type 0
  Empty c n = Connected k n c → (n.lives c).queue ≡ []

  abbrev All : ℕ → Net k → Type 0
  All c n = Connected k n c → (n.lives c).replica.revision ≡ length n.rows

  abbrev Drained : ℕ → Net k → Type 0
  Drained b n = Reachable k n × ((c : ℕ) → c < b → Empty c n)

  drain_one : (c : ℕ) (n : Net k) → Reachable k n → Comes k (Calm k) n (Turn k Empty (Reachable k) n c)
  drain_one c n r = ⊎_elim
      (λ u. comes_as k (Emptied k n c) (Turn k Empty (Reachable k) n c) (empties k c (n.lives c).queue n u refl) (λ o p a. (
        (λ _. a.0),
        reach_path k r p,
        λ j h v. ⊎_elim (λ (e : j ≡ c). subst (λ d. (o.lives d).queue ≡ []) (sym e) a.0)
            (λ ne. ap (λ (l : Life k). l.queue) (a.1 j ne) ∙ h (sym ((same k p).connected j) ∙ v)) (cases_eq j c),
      )))
      (λ u. record { to = n; path = here; holds = ((λ v. absurd (both_ways _ u v)), r, λ j h. h) })
      (cases_Bool (n.server.seats c).connected)

  see_one : (b c : ℕ) (n : Net k) → Drained b n → Comes k (Calm k) n (Turn k All (Drained b) n c)
  see_one b c n i = ⊎_elim
      (λ (u : Connected k n c). let a = (good k l n i.0).alive c ((good k l n i.0).seated.given c u) in
      comes_as k (Saw n c) (Turn k All (Drained b) n c)
      (sees_all c (length n.rows - (n.lives c).replica.revision) n i.0 u (let f = a.copy.seen in let g = a.copy.within in omega arith)) (λ o p a. (
        (λ _. a.0),
        (
          reach_path k i.0 p,
          λ j h v. ⊎_elim (λ (e : j ≡ c). subst (λ d. (o.lives d).queue ≡ []) (sym e) (a.2 ∙ i.1 c (subst (λ d. d < b) e h) u))
              (λ ne. ap (λ (l : Life k). l.queue) (a.3 j ne) ∙ i.1 j h (sym ((same k p).connected j) ∙ v)) (cases_eq j c),
        ),
        λ j h v. ⊎_elim (λ (e : j ≡ c). subst (λ d. (o.lives d).replica.revision ≡ length o.rows) (sym e) a.0)
            (λ ne. ap (λ (l : Life k). l.replica.revision) (a.3 j ne) ∙ h (sym ((same k p).connected j) ∙ v) ∙ ap length (sym a.1)) (cases_eq j c),
      )))
      (λ u. record { to = n; path = here; holds = ((λ v. absurd (both_ways _ u v)), i, λ j h. h) })
      (cases_Bool (n.server.seats c).connected)

  -- all that is under way is taken, and then all see all
  drained : (n : Net k) → Reachable k n → Comes k (Calm k) n (λ o. ((c : ℕ) → c < n.connections → All c o) × Drained n.connections o)
  drained n r = comes_on k (each k Empty (Reachable k) drain_one n.connections n r) (λ m p a.
      each k All (Drained n.connections) (see_one n.connections) n.connections m (a.1, a.0))

  finish : (n o : Net k) → Reachable k n → ((c : ℕ) → Current k n c → Connected k n c) → PathBy k (Calm k) n o →
      ((c : ℕ) → c < n.connections → All c o) → ((c : ℕ) → c < n.connections → Empty c o) → Quiescent k o
  finish n o r all p a d c v =
      let s = same k p in
      let b : c < n.connections = let e = s.connections in let h = v.0 in omega arith in
      let w : Current k n c = (b, λ e g h z. v.1 e g (let f = s.connections in omega arith) (s.clients e ∙ z ∙ sym (s.clients c))) in
      let u : Connected k o c = s.connected c ∙ all c w in (
        u,
        (λ m h. Memᴰ.not-nil (subst (λ q. message.Operation m ∈ q) (d c b u) h)),
        a c b u ∙ sym (recorded_length k l o (good k l o (reach_path k r p)).recorded),
      )

  connected : (n : Net k) → Reachable k n → ((c : ℕ) → Current k n c → Connected k n c) → Quiesces k (Calm k) n
  connected n r all = record { end = s.to; path = s.path; quiescent = finish n s.to r all s.path s.holds.0 s.holds.1.1 }
    where
      s : Comes k (Calm k) n (λ o. ((c : ℕ) → c < n.connections → All c o) × Drained n.connections o)
      s = drained n r

  -- those that have a connection come to that, whoever else has none
  settles : (n : Net k) → Reachable k n → Settles k n
  settles n r = record {
    end = s.to;
    path = s.path;
    settled = λ c u. let b : c < n.connections = omega (arith, (same k s.path).connections, (good k l s.to (reach_path k r s.path)).seated.given c u) in (
      (λ m h. Memᴰ.not-nil (subst (λ q. message.Operation m ∈ q) (s.holds.1.1 c b u) h)),
      s.holds.0 c b u ∙ sym (recorded_length k l s.to (good k l s.to (reach_path k r s.path)).recorded),
    );
    stays = λ c u. (same k s.path).connected c ∙ u;
  }
    where
      s : Comes k (Calm k) n (λ o. ((c : ℕ) → c < n.connections → All c o) × Drained n.connections o)
      s = drained n r

  -- and where nothing more can be taken, heard or seen they have come to it
  module _ (n : Net k) (r : Reachable k n) (none : (m : Net k) (s : Step k n m) → Calm k n m s → ⊥) where
    idle : (c : ℕ) → Connected k n c → (q : List (Message k.Op)) → (n.lives c).queue ≡ q → NoOperation k q
    idle c u [] e m h = Memᴰ.not-nil h
    idle c u (message.Operation o ∷ ms) e m h = none _ (takes c o ms u e) tt
    idle c u (message.Revision i ∷ ms) e m h = none _ (hears c i ms u e) tt

    short : Settled k n
    short c u = (
      idle c u (n.lives c).queue refl,
      ⊎_elim
          (λ h. let p = place n.rows (n.lives c).replica.revision h in
          absurd (none _ (sees c p.element p.before p.after (connected_current k n (good k l n r).seated c u) p.whole p.long
          (subst (λ z. Sendable k z (n.lives c).replica.revision) (sym (a.unended u)) tt)) tt))
          (λ h. omega (arith, a.copy.seen, a.copy.within, recorded_length k l n (good k l n r).recorded))
          (cases_lt (n.lives c).replica.revision (length n.rows)),
    )
      where
        a : Alive k c n.rows (n.server.seats c) (n.lives c)
        a = (good k l n r).alive c ((good k l n r).seated.given c u)

  -- ALL CLIENTS JOIN that have no connection. b: how many connections there were at first
  abbrev Has : ℕ → Net k → Type 0
  Has c n = Current k n c → Connected k n c

  abbrev New : ℕ → Net k → Type 0
  New b n = Reachable k n × (b ≤ n.connections) × ((c : ℕ) → b ≤ c → c < n.connections → Connected k n c)

  join_one : (b c : ℕ) (n : Net k) → New b n → Comes k (Quiet k) n (Turn k Has (New b) n c)
  join_one b c n i = elim (cases_Bool (n.server.seats c).connected) [
    | inl u ↦ stays (λ _. u)
    | inr u ↦ elim (cases_lt c n.connections) [
      | inl h ↦ elim (later (λ d. (n.lives d).client) c n.connections) [ inl r ↦ stays (λ v. absurd (v.1 r.0 r.1 r.2 r.3)) | inr none ↦ anew u h none ]
      | inr h ↦ stays (λ v. absurd (let a = v.0 in omega arith))
    ]
  ]
    where
      stays : Has c n → Comes k (Quiet k) n (Turn k Has (New b) n c)
      stays h = record { to = n; path = here; holds = (h, i, λ j v. v) }

      anew : (n.server.seats c).connected ≡ false → c < n.connections →
          ((d : ℕ) → c < d → d < n.connections → (n.lives d).client ≢ (n.lives c).client) → Comes k (Quiet k) n (Turn k Has (New b) n c)
      anew u h none = record { to = o; path = onward here s tt; holds = (has, (onward i.0 s tt, omega arith, new), keep) }
        where
          g : Seated k n
          g = (good k l n i.0).seated

          top : (t : ℕ) × ((d : ℕ) → d < n.connections → (n.lives d).site < t)
          top = above n.connections (λ d. (n.lives d).site)

          p : ℕ
          p = (n.lives c).client

          o : Net k
          o = after_joining k p top.0 n

          s : Step k n o
          s = joins p top.0 (λ d v e. let l = top.1 d (g.given d v) in omega arith)
              (λ d v e. ⊎_elim (λ (z : d ≡ c). both_ways _ u (subst (λ x. Connected k n x) z v))
              (λ z. ⊎_elim (λ (l : d < c). g.last d c v l h (sym e)) (λ l. none d l (g.given d v) e) z) (cases_order d c))

          child : Life k
          child = newborn k p top.0 n.server.text (length n.server.history)

          seat : (j : ℕ) → j ≢ n.connections → o.server.seats j ≡ n.server.seats j
          seat j = at_other n.connections j (joined_at (length n.server.history)) n.server.seats

          life : (j : ℕ) → j ≢ n.connections → o.lives j ≡ n.lives j
          life j = at_other n.connections j child n.lives

          client_of : {x y : Life k} → x ≡ y → x.client ≡ y.client
          client_of e = ap (λ (z : Life k). z.client) e

          last : Connected k o n.connections
          last = ap (λ (x : Seat k.Op). x.connected) (at_place n.connections n.connections (joined_at (length n.server.history)) n.server.seats refl)

          has : Has c o
          has v = absurd (v.1 n.connections h (omega arith) (client_of (at_place n.connections n.connections child n.lives refl) ∙ sym (client_of (life c (omega arith)))))

          new : (d : ℕ) → b ≤ d → d < n.connections + 1 → Connected k o d
          new d f l = ⊎_elim (λ (e : d ≡ n.connections). subst (λ x. Connected k o x) (sym e) last)
              (λ ne. ap (λ (x : Seat k.Op). x.connected) (seat d ne) ∙ i.2 d f (omega arith)) (cases_eq d n.connections)

          keep : (j : ℕ) → Has j n → Has j o
          keep j f v = ⊎_elim (λ (e : j ≡ n.connections). subst (λ x. Connected k o x) (sym e) last)
              (λ ne. ap (λ (x : Seat k.Op). x.connected) (seat j ne) ∙ f (
                (let a = v.0 in omega arith),
                λ d g l z. v.1 d g (omega arith)
                    (client_of (life d (omega arith)) ∙ z ∙ sym (client_of (life j ne))),
              )) (cases_eq j n.connections)

  always : (n : Net k) → Reachable k n → Quiesces k (Quiet k) n
  always n r = let q = connected j.to (reach_path k r j.path) all in
      record { end = q.end; path = path_append k _ j.path (path_weaker k _ _ (calm_quiet k) q.path); quiescent = q.quiescent }
    where
      b : ℕ
      b = n.connections

      j : Comes k (Quiet k) n (λ o. ((c : ℕ) → c < b → Has c o) × New b o)
      j = each k Has (New b) (join_one b) b n (r, omega arith, λ c f l. absurd (omega arith))

      all : (c : ℕ) → Has c j.to
      all c v = ⊎_elim (λ (l : c < b). j.holds.0 c l v) (λ h. j.holds.1.2 c h v.0) (cases_lt c b)

  pub can_quiesce : CanQuiesce k
  can_quiesce = record { always = always; connected = connected; settles = settles; never_stops_short = short }
