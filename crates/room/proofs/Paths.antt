-- Paths of steps, and what is left of the room, and of the net that it shows, when something is done with one peer.
use Rattle.std.proofs.Common.{◌≡◌, ℕ, ◌<◌, ◌≤◌, Bool, true, false, cond, ⊎_elim, [], length, map, take, set, ◌≢◌, sym, refl, ap, ◌∙◌, subst, arith}
use Rattle.std.proofs.lemmas.Bool.{cases_eq}
use Rattle.std.proofs.lemmas.List.{length-set, get_or-set_same, get_or-set_other, set-set, set-get_or}
use Rattle.operation.specs.Letters.{◌∈◌}
use Rattle.operation.specs.Laws.{apply_all}
use Rattle.server.specs.Sessions.{Seat, free}
use Rattle.server.specs.Servers.{with_seat}
use Rattle.network.specs.Runs.{Deed, Life, with_life, with_server, with_seat as with_net_seat, Step, PathBy, here, Current}
use Rattle.network.specs.Written.{Signed, written, Named}
use Rattle.network.proofs.Paths.{reach_path}
pub use Rattle.network.proofs.Paths.{path_append, path_weaker}
pub use Rattle.network.proofs.Seats.{at_place, at_other}
use Rattle.room.specs.Scenes.{Op, PeerState, Scene, RoomState, scene, with, waiting}
use Rattle.room.specs.Reached.{NamedNet, NamedOp, text_of, op_of, message_of, seat_of, replica_of, Plays, Waits, PlaysOrWaits, Shows, Limited, Reached, Onward}

abbrev pub Steps : Type 1
Steps = (n m : NamedNet) → Step (written Named) n m → Type 0

-- a room is reached by a path, if it shows what is at the end of it
pub onward_by : (P : Steps) {r now : RoomState} (a : Reached r) {m : NamedNet} → PathBy (written Named) P a.net m → (connection : ℕ → ℕ) → Shows m connection now → Limited m → Onward P a.net now
onward_by P a {m} p c shows limited = record {
  reached = record {
    net = m;
    connection = c;
    shows = shows;
    limited = limited;
    reachable = reach_path (written Named) a.reachable p;
    promised = a.promised;
  };
  path = p;
}

pub onward_then : (P : Steps) {n : NamedNet} {r now : RoomState} (a : Onward P n r) → Onward P a.reached.net now → Onward P n now
onward_then P a b = record { reached = b.reached; path = path_append (written Named) P a.path b.path }

pub onward_weaker : (P Q : Steps) → ((n m : NamedNet) (s : Step (written Named) n m) → P n m s → Q n m s) → {n : NamedNet} {r : RoomState} → Onward P n r → Onward Q n r
onward_weaker P Q h a = record { reached = a.reached; path = path_weaker (written Named) P Q h a.path }

-- SOMETHING IS DONE WITH PEER w
pub scene_with : (w : ℕ) (f : Scene → Scene) (r : RoomState) → w < length r.peers → scene w (with w f r) ≡ f (scene w r)
scene_with w f r h =
    let e = get_or-set_same r.peers w (f (scene w r)).peer (waiting w) h in
    λ j. record { server = (f (scene w r)).server; peer = e j; events = (f (scene w r)).events }

pub scene_other : (w v : ℕ) (f : Scene → Scene) (r : RoomState) → v ≢ w → (scene v (with w f r)).peer ≡ (scene v r).peer
scene_other w v f r h = get_or-set_other r.peers w v (f (scene w r)).peer (waiting v) h

pub with_then : (w : ℕ) (f g : Scene → Scene) (r : RoomState) → w < length r.peers → with w (λ s. g (f s)) r ≡ with w g (with w f r)
with_then w f g r h =
    ap (λ ps. record { server = (g (f (scene w r))).server; peers = ps; events = (g (f (scene w r))).events }) (sym (set-set r.peers w (f (scene w r)).peer (g (f (scene w r))).peer))
    ∙ ap (λ (s : Scene). record { server = (g s).server; peers = set (set r.peers w (f (scene w r)).peer) w (g s).peer; events = (g s).events }) (sym (scene_with w f r h))

-- the room where peer w is as in a scene
abbrev pub put : ℕ → Scene → RoomState → RoomState
put w s r = record { server = s.server; peers = set r.peers w s.peer; events = s.events }

pub with_same : (w : ℕ) (f g : Scene → Scene) (r : RoomState) → f (scene w r) ≡ g (scene w r) → with w f r ≡ with w g r
with_same w f g r e = ap (λ s. put w s r) e

-- Where what is needed holds of peer w, what is done with it takes the room onward.
abbrev pub Carries : ℕ → (Scene → Type 0) → Steps → (Scene → Scene) → Type 0
Carries w Q P f = (r : RoomState) (a : Reached r) → Q (scene w r) → Onward P a.net (with w f r)

pub enough_peers : {r : RoomState} → Reached r → (w : ℕ) → w < 4 → w < length r.peers
enough_peers a w h = let e = a.shows.four in omega arith

-- one after the other
pub carries_then : (w : ℕ) → w < 4 → (Q R : Scene → Type 0) (P : Steps) (f g : Scene → Scene) → Carries w Q P f → ((s : Scene) → Q s → R (f s)) → Carries w R P g → Carries w Q P (λ s. g (f s))
carries_then w h Q R P f g x q y r a u =
    let o = x r a u in
    let e = enough_peers a w h in
    subst (Onward P a.net) (sym (with_then w f g r e)) (onward_then P o (y (with w f r) o.reached (subst R (sym (scene_with w f r e)) (q (scene w r) u))))

-- what comes to the same there
pub carries_same : (w : ℕ) (Q : Scene → Type 0) (P : Steps) (f g : Scene → Scene) → ((s : Scene) → Q s → g s ≡ f s) → Carries w Q P f → Carries w Q P g
carries_same w Q P f g e x r a u = subst (Onward P a.net) (sym (with_same w g f r (e (scene w r) u))) (x r a u)

-- by a test
pub carries_cond : (w : ℕ) (Q : Scene → Type 0) (P : Steps) (b : Scene → Bool) (f g : Scene → Scene) →
    Carries w (λ s. Q s × (b s ≡ true)) P f → Carries w (λ s. Q s × (b s ≡ false)) P g → Carries w Q P (λ s. cond (b s) (f s) (g s))
carries_cond w Q P b f g x y r a u = by (b (scene w r)) refl
  where
    by : (t : Bool) → b (scene w r) ≡ t → Onward P a.net (put w (cond t (f (scene w r)) (g (scene w r))) r)
    by true e = x r a (u, e)
    by false e = y r a (u, e)

-- WHAT THE ROOM SHOWS
-- nothing but what is to be reported has changed
pub shows_same : {n : NamedNet} {c : ℕ → ℕ} {r now : RoomState} → Shows n c r → now.server ≡ r.server → now.peers ≡ r.peers → Shows n c now
shows_same {n} {c} {r} {now} s e f = subst (λ ps. Shows n c (record { server = now.server; peers = ps; events = now.events })) (sym f)
    (subst (λ v. Shows n c (record { server = v; peers = r.peers; events = now.events })) (sym e)
    (record { four = s.four; text = s.text; history = s.history; peers = s.peers; others = s.others; clients = s.clients }))

pub onward_same : (P : Steps) {r now : RoomState} (a : Reached r) → now.server ≡ r.server → now.peers ≡ r.peers → Onward P a.net now
onward_same P a e f = onward_by P a here a.connection (shows_same a.shows e f) a.limited

-- nothing is done to the server and the peer
pub carries_nothing : (w : ℕ) (Q : Scene → Type 0) (P : Steps) (f : Scene → Scene) → ((s : Scene) → Q s → (f s).server ≡ s.server) → ((s : Scene) → Q s → (f s).peer ≡ s.peer) → Carries w Q P f
carries_nothing w Q P f e g r a u = onward_same P a (e (scene w r) u) (ap (set r.peers w) (g (scene w r) u) ∙ set-get_or r.peers w (waiting w))

module _ {n : NamedNet} {c : ℕ → ℕ} {r : RoomState} (s : Shows n c r) (w : ℕ) (below : w < 4) where
  pub site_now : (scene w r).peer.site ≡ w
  site_now = (s.peers w below).0

  pub plays_now : (scene w r).peer.joined ≡ true → Plays n w (c w) (r.server.seats w) (scene w r).peer
  plays_now e = subst (λ b. PlaysOrWaits b n w (c w) (r.server.seats w) (scene w r).peer) e (s.peers w below).1

  pub waits_now : (scene w r).peer.joined ≡ false → Waits n w (r.server.seats w) (scene w r).peer
  waits_now e = subst (λ b. PlaysOrWaits b n w (c w) (r.server.seats w) (scene w r).peer) e (s.peers w below).1

-- what a room shows after something was done with peer w, if it shows this of that peer and of the others
pub record Shown (m : NamedNet) (connection : ℕ → ℕ) (r : RoomState) (w : ℕ) (s : Scene) : Type 0 where
  pub text : s.server.text ≡ text_of m.server.text
  pub history : s.server.history ≡ map op_of m.server.history
  pub site : s.peer.site ≡ w
  pub its : PlaysOrWaits s.peer.joined m w (connection w) (s.server.seats w) s.peer
  pub rest : (v : ℕ) → v < 4 → v ≢ w → PlaysOrWaits (scene v r).peer.joined m v (connection v) (s.server.seats v) (scene v r).peer
  pub others : (i : ℕ) → 4 ≤ i → s.server.seats i ≡ free
  pub clients : (c : ℕ) → c < m.connections → ((m.lives c).client < 4) × ((m.lives c).site ≡ (m.lives c).client)

pub shows_with : {n m : NamedNet} {c d : ℕ → ℕ} {r : RoomState} → Shows n c r → (w : ℕ) → w < 4 → (f : Scene → Scene) → Shown m d r w (f (scene w r)) → Shows m d (with w f r)
shows_with {n} {m} {c} {d} {r} s w below f g = record {
  four = length-set r.peers w (f (scene w r)).peer ∙ s.four;
  text = g.text;
  history = g.history;
  peers = λ v h. ⊎_elim (λ e. subst (λ v. Of v (scene v (with w f r)).peer) (sym e) (subst (λ (t : Scene). Of w t.peer) (sym (scene_with w f r (let e = s.four in omega arith))) (g.site, g.its)))
      (λ ne. subst (Of v) (sym (scene_other w v f r ne)) ((s.peers v h).0, g.rest v h ne)) (cases_eq v w);
  others = g.others;
  clients = g.clients;
}
  where
    Of : ℕ → PeerState → Type 0
    Of v p = (p.site ≡ v) × PlaysOrWaits p.joined m v (d v) ((f (scene w r)).server.seats v) p

pub plays_or_waits : (b : Bool) {n m : NamedNet} {v c d : ℕ} {s t : Seat Op} {p q : PeerState} → (Plays n v c s p → Plays m v d t q) → (Waits n v s p → Waits m v t q) →
    PlaysOrWaits b n v c s p → PlaysOrWaits b m v d t q
plays_or_waits true f g x = f x
plays_or_waits false f g x = g x

-- What a step makes that changes one life, and maybe its seat, and not the server's text and history; and what is done with the peer that has that life.
pub record OneLife (n m : NamedNet) (w c : ℕ) (s t : Scene) : Type 0 where
  pub lives : (d : ℕ) → d ≢ c → m.lives d ≡ n.lives d
  pub seats : (d : ℕ) → d ≢ c → m.server.seats d ≡ n.server.seats d
  pub connections : m.connections ≡ n.connections
  pub text : m.server.text ≡ n.server.text
  pub history : m.server.history ≡ n.server.history
  pub client : (m.lives c).client ≡ (n.lives c).client
  pub its_site : (m.lives c).site ≡ (n.lives c).site
  pub shown_text : t.server.text ≡ s.server.text
  pub shown_history : t.server.history ≡ s.server.history
  pub shown_seats : (v : ℕ) → v ≢ w → t.server.seats v ≡ s.server.seats v
  pub site : t.peer.site ≡ s.peer.site
  pub joined : t.peer.joined ≡ true
  pub replica : t.peer.replica ≡ replica_of (m.lives c).replica
  pub its_seat : t.server.seats w ≡ seat_of (m.server.seats c)
  pub queue : (t.server.seats w).connected ≡ true → t.peer.queue ≡ map message_of (m.lives c).queue

-- who is current stays so where no client is another and nobody joins
pub current_kept : (n m : NamedNet) → m.connections ≡ n.connections → ((d : ℕ) → (m.lives d).client ≡ (n.lives d).client) →
    (d : ℕ) → Current (written Named) n d → Current (written Named) m d
current_kept n m e same d u = (omega (arith, u.0), (λ b h k q. u.1 b h (omega arith) (sym (same b) ∙ q ∙ same d)))

module _ {n m : NamedNet} {c : ℕ → ℕ} {r : RoomState} {w : ℕ} {t : Scene} (s : Shows n c r) (below : w < 4) (joined : (scene w r).peer.joined ≡ true) (o : OneLife n m w (c w) (scene w r) t) where
  same_client : (d : ℕ) → (m.lives d).client ≡ (n.lives d).client
  same_client d = ⊎_elim (λ e. subst (λ d. (m.lives d).client ≡ (n.lives d).client) (sym e) o.client) (λ ne. ap (λ l. l.client) (o.lives d ne)) (cases_eq d (c w))

  same_site : (d : ℕ) → (m.lives d).site ≡ (n.lives d).site
  same_site d = ⊎_elim (λ e. subst (λ d. (m.lives d).site ≡ (n.lives d).site) (sym e) o.its_site) (λ ne. ap (λ l. l.site) (o.lives d ne)) (cases_eq d (c w))

  current_still : (d : ℕ) → Current (written Named) n d → Current (written Named) m d
  current_still = current_kept n m o.connections same_client

  fewer : (d : ℕ) → d < m.connections → d < n.connections
  fewer d h = let e = o.connections in omega arith

  shows_one_life : Shown m c r w t
  shows_one_life =
      let mine = plays_now s w below joined in
      record {
        text = o.shown_text ∙ s.text ∙ ap text_of (sym o.text);
        history = o.shown_history ∙ s.history ∙ ap (map op_of) (sym o.history);
        site = o.site ∙ site_now s w below;
        its = subst (λ b. PlaysOrWaits b m w (c w) (t.server.seats w) t.peer) (sym o.joined)
            (record { current = current_still (c w) mine.current; client = o.client ∙ mine.client; replica = o.replica; its_seat = o.its_seat; queue = o.queue });
        rest = λ v h ne. plays_or_waits (scene v r).peer.joined
            (λ p. let far : c v ≢ c w = λ e. ne (sym p.client ∙ ap (λ d. (n.lives d).client) e ∙ mine.client) in record {
              current = current_still (c v) p.current;
              client = same_client (c v) ∙ p.client;
              replica = p.replica ∙ ap (λ l. replica_of l.replica) (sym (o.lives (c v) far));
              its_seat = o.shown_seats v ne ∙ p.its_seat ∙ ap seat_of (sym (o.seats (c v) far));
              queue = λ q. p.queue (ap (λ u. u.connected) (sym (o.shown_seats v ne)) ∙ q) ∙ ap (λ l. map message_of l.queue) (sym (o.lives (c v) far));
            })
            (λ p. record { unknown = λ d h q. p.unknown d (fewer d h) (sym (same_client d) ∙ q); no_seat = o.shown_seats v ne ∙ p.no_seat; text = p.text })
            (s.peers v h).1;
        others = λ i h. o.shown_seats i (omega arith) ∙ s.others i h;
        clients = λ d h. (subst (λ i. i < 4) (sym (same_client d)) (s.clients d (fewer d h)).0, same_site d ∙ (s.clients d (fewer d h)).1 ∙ sym (same_client d));
      }

  pub shows_one : (f : Scene → Scene) → f (scene w r) ≡ t → Shows m c (with w f r)
  shows_one f e = shows_with s w below f (subst (Shown m c r w) (sym e) shows_one_life)

-- THE LIMITS, life by life
pub record Within (l : Life (written Named)) : Type 0 where
  pub pending : length l.replica.pending ≤ 256
  pub before : (d : Deed (written Named)) → d ∈ l.deeds → length d.before ≤ 65792

pub within : {n : NamedNet} → Limited n → (c : ℕ) → Within (n.lives c)
within l c = record { pending = l.pending c; before = l.before c }

-- of a step that leaves the history and what was typed
pub limited_lives : {n : NamedNet} → Limited n → (m : NamedNet) → m.server.history ≡ n.server.history → m.typed ≡ n.typed →
    ((c : ℕ) → Within (m.lives c)) → ((c : ℕ) → length (m.server.seats c).concurrent ≤ 4096) → Limited m
limited_lives l m h t w s = record {
  texts = λ i. subst (λ os. length (apply_all (written Named) (take i os) []) ≤ 65536) (sym h) (l.texts i);
  letters = subst (λ os. (o : NamedOp) → o ∈ os → (x : Signed Named) → x ∈ (written Named).puts o → (1 ≤ x.letter.number) × (x.letter.number ≤ 1114111)) (sym h) l.letters;
  history = subst (λ os. length os ≤ 4294967294) (sym h) l.history;
  pending = λ c. (w c).pending;
  before = λ c. (w c).before;
  concurrent = s;
  serials = subst (λ xs. (x : Signed Named) → x ∈ xs → x.letter.serial < length xs) (sym t) l.serials;
}

-- ONE LIFE is changed, and maybe its seat, and the peer that has it
module _ {n : NamedNet} {c : ℕ → ℕ} {r : RoomState} (s : Shows n c r) (w : ℕ) (below : w < 4) (joined : (scene w r).peer.joined ≡ true) (f : Scene → Scene) where
  pub shows_life : (v : Life (written Named)) → v.client ≡ (n.lives (c w)).client → v.site ≡ (n.lives (c w)).site → (f (scene w r)).server ≡ r.server →
      (f (scene w r)).peer.site ≡ (scene w r).peer.site → (f (scene w r)).peer.joined ≡ true → (f (scene w r)).peer.replica ≡ replica_of v.replica →
      ((r.server.seats w).connected ≡ true → (f (scene w r)).peer.queue ≡ map message_of v.queue) → Shows (with_life (written Named) (c w) v n) c (with w f r)
  shows_life v client site server peer_site still replica queue =
      let same = at_place (c w) (c w) v n.lives refl in
      shows_one s below joined (record {
        lives = λ d ne. at_other (c w) d v n.lives ne;
        seats = λ d ne. refl;
        connections = refl;
        text = refl;
        history = refl;
        client = ap (λ l. l.client) same ∙ client;
        its_site = ap (λ l. l.site) same ∙ site;
        shown_text = ap (λ z. z.text) server;
        shown_history = ap (λ z. z.history) server;
        shown_seats = λ j ne. ap (λ z. z.seats j) server;
        site = peer_site;
        joined = still;
        replica = replica ∙ ap (λ l. replica_of l.replica) (sym same);
        its_seat = ap (λ z. z.seats w) server ∙ (plays_now s w below joined).its_seat;
        queue = λ q. queue (ap (λ z. (z.seats w).connected) (sym server) ∙ q) ∙ ap (λ l. map message_of l.queue) (sym same);
      }) f refl

  pub shows_seat : (x : Seat NamedOp) (v : Life (written Named)) → v.client ≡ (n.lives (c w)).client → v.site ≡ (n.lives (c w)).site →
      (f (scene w r)).server ≡ with_seat w (seat_of x) r.server → (f (scene w r)).peer.site ≡ (scene w r).peer.site → (f (scene w r)).peer.joined ≡ true →
      (f (scene w r)).peer.replica ≡ replica_of v.replica → (x.connected ≡ true → (f (scene w r)).peer.queue ≡ map message_of v.queue) →
      Shows (with_life (written Named) (c w) v (with_server (written Named) (with_net_seat (written Named) (c w) x n.server) n)) c (with w f r)
  shows_seat x v client site server peer_site still replica queue =
      let same = at_place (c w) (c w) v n.lives refl in
      let seated : (f (scene w r)).server.seats w ≡ seat_of x = ap (λ z. z.seats w) server ∙ at_place w w (seat_of x) r.server.seats refl in
      shows_one s below joined (record {
        lives = λ d ne. at_other (c w) d v n.lives ne;
        seats = λ d ne. at_other (c w) d x n.server.seats ne;
        connections = refl;
        text = refl;
        history = refl;
        client = ap (λ l. l.client) same ∙ client;
        its_site = ap (λ l. l.site) same ∙ site;
        shown_text = ap (λ z. z.text) server;
        shown_history = ap (λ z. z.history) server;
        shown_seats = λ j ne. ap (λ z. z.seats j) server ∙ at_other w j (seat_of x) r.server.seats ne;
        site = peer_site;
        joined = still;
        replica = replica ∙ ap (λ l. replica_of l.replica) (sym same);
        its_seat = seated ∙ ap seat_of (sym (at_place (c w) (c w) x n.server.seats refl));
        queue = λ q. queue (ap (λ t. t.connected) (sym seated) ∙ q) ∙ ap (λ l. map message_of l.queue) (sym same);
      }) f refl
