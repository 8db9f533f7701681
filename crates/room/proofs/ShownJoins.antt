-- A peer's connection ends, and a peer joins: the steps of the net, and what the room shows then.
use Rattle.std.proofs.Common.{◌≡◌, ℕ, ◌+◌, ◌<◌, ◌≤◌, Bool, true, false, cond, ⊎_elim, [], map, length, ◌==◌, ◌≢◌, sym, refl, ap, ◌∙◌, subst, arith}
use Rattle.std.proofs.lemmas.Bool.{cases_order, false≢true, and_parts, and_from, and_right}
use Rattle.std.proofs.lemmas.List.{length-map}
use mathlib.Core.List.Memᴰ
use Rattle.server.specs.Sessions.{Seat, free, joined_at}
use Rattle.server.specs.Servers.{with_seat}
use Rattle.network.specs.Runs.{Life, here, onward, ends, joins, at, newborn, ended_at, after_ending, after_joining, Connected}
use Rattle.network.specs.Written.{written, Named}
use Rattle.network.proofs.Invariants.{Good}
use Rattle.network.proofs.Seats.{everywhere}
use Rattle.network.proofs.Writing.{written_laws}
use Rattle.room.specs.Scenes.{Op, PeerState, Scene, RoomState, scene, with, connected, joining, named}
use Rattle.room.specs.Reached.{NamedNet, op_of, message_of, seat_of, replica_of, Plays, Waits, Shows, Limited, Reached, Onward}
use Rattle.room.proofs.Paths.{at_place, at_other, Within, within, limited_lives, Steps, Carries, onward_by, carries_then, carries_same, carries_cond, carries_nothing, site_now, plays_now, waits_now, shows_with, plays_or_waits, shows_seat}
use Rattle.network.proofs.Nets.{good}

-- what the net is good for
pub good_net : {r : RoomState} (a : Reached r) → Good (written Named) a.net
good_net a = good (written Named) (written_laws Named) a.net a.reachable

-- among steps such as P says client w's connection may end, and it may join
abbrev pub MayEnd : ℕ → Steps → Type 0
MayEnd w P = (n : NamedNet) (c : ℕ) (u : Connected (written Named) n c) → (n.lives c).client ≡ w → P n (after_ending (written Named) c n) (ends c u)

abbrev pub MayJoin : ℕ → Steps → Type 0
MayJoin w P = (n : NamedNet) (u : (c : ℕ) → Connected (written Named) n c → (n.lives c).site ≢ w) (v : (c : ℕ) → Connected (written Named) n c → (n.lives c).client ≢ w) →
    P n (after_joining (written Named) w w n) (joins w w u v)

-- WHO IS CONNECTED
-- a peer that the room shows with a connection has one
pub connected_now : {n : NamedNet} {c : ℕ → ℕ} {r : RoomState} (s : Shows n c r) (w : ℕ) (h : w < 4) → connected (scene w r) ≡ true →
    ((scene w r).peer.joined ≡ true) × Connected (written Named) n (c w)
connected_now {n} {c} {r} s w h e =
    let p = and_parts _ _ e in
    (p.0, ap (λ (t : Seat Op). t.connected) (sym (plays_now s w h p.0).its_seat) ∙ ap (λ i. (r.server.seats i).connected) (sym (site_now s w h)) ∙ p.1)

-- whoever has one is shown with it
pub connected_shown : {n : NamedNet} {c : ℕ → ℕ} {r : RoomState} → Good (written Named) n → Shows n c r → (d : ℕ) → Connected (written Named) n d →
    ((scene (n.lives d).client r).peer.joined ≡ true) × (r.server.seats (n.lives d).client ≡ seat_of (n.server.seats d))
connected_shown {n} {c} {r} g s d u = by (scene v r).peer.joined refl
  where
    v : ℕ
    v = (n.lives d).client

    below : v < 4
    below = (s.clients d (g.seated.given d u)).0

    by : (b : Bool) → (scene v r).peer.joined ≡ b → ((scene v r).peer.joined ≡ true) × (r.server.seats v ≡ seat_of (n.server.seats d))
    by false j = absurd ((waits_now s v below j).unknown d (g.seated.given d u) refl)
    by true j =
        let p = plays_now s v below j in (
          j,
          ⊎_elim (λ e. p.its_seat ∙ ap (λ i. seat_of (n.server.seats i)) (sym e))
              (λ e. absurd (⊎_elim (λ h. g.seated.last d (c v) u h p.current.0 p.client) (λ h. p.current.1 d h (g.seated.given d u) (sym p.client)) e))
              (cases_order d (c v)),
        )

-- and a peer that is shown without one has none
pub nobody_is : {n : NamedNet} {c : ℕ → ℕ} {r : RoomState} → Good (written Named) n → (s : Shows n c r) (w : ℕ) (h : w < 4) → connected (scene w r) ≡ false →
    (d : ℕ) → Connected (written Named) n d → (n.lives d).client ≢ w
nobody_is {n} {c} {r} g s w h e d u q =
    let k = connected_shown g s d u in
    let v = (n.lives d).client in
    let site = site_now s v (s.clients d (g.seated.given d u)).0 in
    false≢true (sym e ∙ ap (λ i. connected (scene i r)) (sym q) ∙ and_from _ _ k.0 (ap (λ i. (r.server.seats i).connected) site ∙ ap (λ (t : Seat Op). t.connected) k.1 ∙ u))

-- A CONNECTION ENDS
abbrev pub disconnecting : Scene → Scene
disconnecting s = record { server = with_seat s.peer.site free s.server; peer = s.peer; events = s.events }

module _ (n : NamedNet) (l : Limited n) (c : ℕ) where
  pub limited_ends : Limited (after_ending (written Named) c n)
  limited_ends = limited_lives l _ refl refl (everywhere (λ j f. Within f) c _ n.lives (record { pending = l.pending c; before = l.before c }) (λ j h. within l j))
      (everywhere (λ j s. length s.concurrent ≤ 4096) c free n.server.seats (omega arith) (λ j h. l.concurrent j))

-- the room shows it
pub shows_ended : {n : NamedNet} {c : ℕ → ℕ} {r : RoomState} → Shows n c r → (w : ℕ) → w < 4 → (scene w r).peer.joined ≡ true → Shows (after_ending (written Named) (c w) n) c (with w disconnecting r)
shows_ended {n} {c} {r} s w below j = shows_seat s w below j disconnecting free (ended_at (written Named) (length n.server.history) (n.lives (c w))) refl refl
    (ap (λ i. with_seat i free r.server) (site_now s w below)) refl j (plays_now s w below j).replica (λ e. absurd (false≢true e))

module _ (w : ℕ) (below : w < 4) (P : Steps) (allowed : MayEnd w P) where
  pub ending : Carries w (λ s. connected s ≡ true) P disconnecting
  ending r a q =
      let c = a.connection w in
      let now = connected_now a.shows w below q in
      onward_by P a (onward here (ends c now.1) (allowed a.net c now.1 (plays_now a.shows w below now.0).client)) a.connection (shows_ended a.shows w below now.0) (limited_ends a.net a.limited c)

-- A PEER JOINS that has no connection
pub same_length : {n : NamedNet} {c : ℕ → ℕ} {r : RoomState} → Shows n c r → length r.server.history ≡ length n.server.history
same_length {n} s = ap length s.history ∙ length-map n.server.history op_of

module _ (n : NamedNet) (l : Limited n) (w : ℕ) where
  pub limited_joins : Limited (after_joining (written Named) w w n)
  limited_joins = limited_lives l _ refl refl
      (everywhere (λ j f. Within f) n.connections (newborn (written Named) w w n.server.text (length n.server.history)) n.lives
      (record { pending = omega arith; before = λ d m. absurd (Memᴰ.not-nil m) }) (λ j h. within l j))
      (everywhere (λ j s. length s.concurrent ≤ 4096) n.connections (joined_at (length n.server.history)) n.server.seats (omega arith) (λ j h. l.concurrent j))

module _ {n : NamedNet} {c : ℕ → ℕ} {r : RoomState} (s : Shows n c r) (w : ℕ) (below : w < 4) where
  -- the net and the connections then, the new life, and the scene
  abbrev m : NamedNet
  m = after_joining (written Named) w w n

  abbrev d : ℕ → ℕ
  d = at w n.connections c

  abbrev born : Life (written Named)
  born = newborn (written Named) w w n.server.text (length n.server.history)

  its_life : m.lives n.connections ≡ born
  its_life = at_place n.connections n.connections born n.lives refl

  -- what is so of the newborn and of the other lives
  each : (Q : ℕ → Life (written Named) → Type 0) → Q n.connections born → ((j : ℕ) → j ≢ n.connections → Q j (n.lives j)) → (j : ℕ) → Q j (m.lives j)
  each Q = everywhere Q n.connections born n.lives

  abbrev now : Scene
  now = joining (scene w r)

  seat_of_it : now.server.seats w ≡ joined_at (length r.server.history)
  seat_of_it = at_place _ w _ (with_seat (scene w r).peer.site free r.server).seats (sym (site_now s w below))

  other_seat : (v : ℕ) → v ≢ w → now.server.seats v ≡ r.server.seats v
  other_seat v ne =
      let far : v ≢ (scene w r).peer.site = λ e. ne (e ∙ site_now s w below) in
      at_other _ v _ (with_seat (scene w r).peer.site free r.server).seats far ∙ at_other _ v free r.server.seats far

  plays_joined : Plays m w n.connections (now.server.seats w) now.peer
  plays_joined = record {
    current = (omega arith, λ b h k. absurd (omega arith));
    client = ap (λ f. f.client) its_life;
    replica = (let e = same_length s in λ j. record { text = s.text j; pending = []; revision = e j }) ∙ ap (λ f. replica_of f.replica) (sym its_life);
    its_seat = seat_of_it ∙ ap joined_at (same_length s) ∙ ap seat_of (sym (at_place n.connections n.connections _ n.server.seats refl));
    queue = λ u. ap (λ f. map message_of f.queue) (sym its_life);
  }

  plays_still : (v : ℕ) → v ≢ w → (p : PeerState) → Plays n v (c v) (r.server.seats v) p → Plays m v (c v) (now.server.seats v) p
  plays_still v ne p x =
      let far : c v ≢ n.connections = let h = x.current.0 in omega arith in
      let same : m.lives (c v) ≡ n.lives (c v) = at_other _ _ born n.lives far in
      record {
        current = (
          let h = x.current.0 in omega arith,
          each (λ j f. c v < j → j < n.connections + 1 → f.client ≢ (m.lives (c v)).client)
              (λ _ _ q. ne (sym (q ∙ ap (λ f. f.client) same ∙ x.client)))
              (λ j nj h k q. x.current.1 j h (omega arith) (q ∙ ap (λ f. f.client) same)),
        );
        client = ap (λ f. f.client) same ∙ x.client;
        replica = x.replica ∙ ap (λ f. replica_of f.replica) (sym same);
        its_seat = other_seat v ne ∙ x.its_seat ∙ ap seat_of (sym (at_other _ _ _ n.server.seats far));
        queue = λ q. x.queue (ap (λ (t : Seat Op). t.connected) (sym (other_seat v ne)) ∙ q) ∙ ap (λ f. map message_of f.queue) (sym same);
      }

  waits_still : (v : ℕ) → v ≢ w → (p : PeerState) → Waits n v (r.server.seats v) p → Waits m v (now.server.seats v) p
  waits_still v ne p x = record {
    unknown = each (λ j f. j < n.connections + 1 → f.client ≡ v → ⊥) (λ _ q. ne (sym q)) (λ j nj h q. x.unknown j (omega arith) q);
    no_seat = other_seat v ne ∙ x.no_seat;
    text = x.text;
  }

  shows_joined : Shows m d (with w joining r)
  shows_joined = shows_with s w below joining (record {
    text = s.text;
    history = s.history;
    site = site_now s w below;
    its = subst (λ e. Plays m w e (now.server.seats w) now.peer) (sym (at_place w w n.connections c refl)) plays_joined;
    rest = λ v h ne. plays_or_waits (scene v r).peer.joined
        (λ x. subst (λ e. Plays m v e (now.server.seats v) (scene v r).peer) (sym (at_other w v n.connections c ne)) (plays_still v ne _ x))
        (waits_still v ne _) (s.peers v h).1;
    others = λ i h. other_seat i (omega arith) ∙ s.others i h;
    clients = each (λ j f. j < n.connections + 1 → (f.client < 4) × (f.site ≡ f.client)) (λ _. (below, refl)) (λ j nj h. s.clients j (omega arith));
  })

disconnected : (s : Scene) → connected (disconnecting s) ≡ false
disconnected s = and_right s.peer.joined _ (ap (λ (t : Seat Op). t.connected) (at_place s.peer.site s.peer.site free s.server.seats refl))

twice : {X : Type 0} (b : Bool) (x y z : X) → cond b x (cond b y z) ≡ cond b x (cond b y (cond b y z))
twice true x y z = refl
twice false x y z = refl

after_all : (s : Scene) → joining s ≡ joining (disconnecting s)
after_all s =
    let e = λ (j : ℕ). twice (j == s.peer.site) (joined_at (length s.server.history)) free (s.server.seats j) in
    λ i. record {
      server = record { text = s.server.text; history = s.server.history; seats = λ j. e j i };
      peer = (joining s).peer;
      events = (joining s).events;
    }

module _ (w : ℕ) (below : w < 4) (P : Steps) (allowed : MayJoin w P) where
  -- by one step
  pub joining_free : Carries w (λ s. connected s ≡ false) P joining
  joining_free r a q =
      let g = good_net a in
      let alone = nobody_is g a.shows w below q in
      let here_too : (c : ℕ) → Connected (written Named) a.net c → (a.net.lives c).site ≢ w = λ c u e. alone c u (sym (a.shows.clients c (g.seated.given c u)).1 ∙ e) in
      onward_by P a (onward here (joins w w here_too alone) (allowed a.net here_too alone)) (d a.shows w below) (shows_joined a.shows w below) (limited_joins a.net a.limited w)

  -- a peer that a command names joins if it has no connection
  pub naming_peer : Carries w (λ s. Unit {0}) P named
  naming_peer = carries_cond w (λ s. Unit {0}) P connected (λ s. s) joining
      (carries_nothing w (λ s. Unit {0} × (connected s ≡ true)) P (λ s. s) (λ s _. refl) (λ s _. refl))
      (λ r a q. joining_free r a q.1)

  -- a connection that it has ends first
  pub joining_anew : MayEnd w P → Carries w (λ s. Unit {0}) P joining
  joining_anew allowed_end r a q = by (connected (scene w r)) refl
    where
      by : (b : Bool) → connected (scene w r) ≡ b → Onward P a.net (with w joining r)
      by true e = carries_same w (λ s. connected s ≡ true) P (λ s. joining (disconnecting s)) joining (λ s _. after_all s)
          (carries_then w below (λ s. connected s ≡ true) (λ s. connected s ≡ false) P disconnecting joining (ending w below P allowed_end) (λ s _. disconnected s) joining_free) r a e
      by false e = joining_free r a e
