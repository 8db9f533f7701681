-- A peer sees what comes next, and reports how far it has come where that is due; nothing that comes is refused.
use Rattle.std.proofs.Common.{◌≡◌, ℕ, zero, suc, ◌+◌, ◌-◌, ◌%◌, ◌<◌, ◌≤◌, Bool, ◌&&◌, true, false, cond, ⊎_elim, List, [], ◌∷◌, ◌++◌, map, length, take, drop, get_or, Some, None, Option, ltb, eqb, ◌==◌, ◌≢◌, sym, refl, ap, ap₂, ◌∙◌, subst, arith}
use Rattle.std.proofs.lemmas.Bool.{cases_eq, cond_both, cond-true, eq-eqb, ne_eqb, eqb-false, ltb-true, lt-ltb, and_from}
use Rattle.std.proofs.lemmas.List.{take-append-drop, drop_more, length-take, length-drop, length-map, take_more, get_or-map, append-nil, map-append}
use Rattle.std.proofs.lemmas.Option.{cond_some}
use mathlib.Core.List.Memᴰ
use Rattle.operation.specs.declared.operation.Operation.TheVariants.{Noop}
use Rattle.operation.specs.declared.entry.Entry.{Entry}
use Rattle.operation.specs.Letters.{◌∈◌}
use Rattle.operation.specs.Edits.{site}
use Rattle.operation.specs.Laws.{apply_all}
use Rattle.operation.specs.Transform.{Passed, map_passed}
use Rattle.text.specs.Coded.{coded}
use Rattle.text.specs.Texts.{refusal}
use Rattle.client.specs.declared.refusal.Refusal.{Refusal as ClientRefusal}
use Rattle.client.specs.Replicas.{Replica, passed, confirmed, received, seen as seen_coded}
use Rattle.client.specs.Clients.{see_refusal, after_seeing, due, reasons, unless}
use Rattle.network.specs.declared.message.Message.{Message}
use Rattle.network.specs.declared.message.Message.TheVariants as message
use Rattle.network.specs.Runs.{Row, ops, Life, sees, reports, after_seeing as net_seeing, after_reporting, here, onward, with_life, seen_by, seeing as seeing_life, reporting, Sendable, Current, Connected}
use Rattle.network.specs.Written.{Signed, written, Named}
use Rattle.network.proofs.Invariants.{replay, Fitting, over, Alive, Good}
use Rattle.network.proofs.Letters.{mem_of, fitting_right, replay_snoc, puts_one}
use Rattle.network.proofs.Stacks.{over_fits}
use Rattle.network.proofs.Copies.{rest_now, kept_now}
use Rattle.network.proofs.Grid.{length_others}
use Rattle.network.proofs.Seats.{everywhere}
use Rattle.network.proofs.Nets.{recorded_length}
use Rattle.network.proofs.Writing.{written_laws}
use Rattle.room.specs.declared.event.Event.TheVariants as event
use Rattle.room.specs.Scenes.{Op, Scene, RoomState, scene, with, connected, seen, next_entry, seeing, seeing_entry, takes_entry, seeing_up_to, seeing_all, report, reported}
use Rattle.room.specs.Reached.{NamedNet, NamedOp, text_of, op_of, replica_of, message_of, Plays, Limited, Reached, Onward}
use Rattle.room.proofs.Naming.{site_of, cond_of, confirmed_of, passed_of, received_of, mine_fit, refusal_none}
use Rattle.room.proofs.Lengths.{longer, length_all, seen_short}
use Rattle.room.proofs.Paths.{Steps, Carries, carries_then, carries_same, carries_cond, carries_nothing, onward_by, site_now, plays_now, limited_lives, Within, within, shows_life}
use Rattle.room.proofs.ShownJoins.{good_net, connected_now}

-- WHAT COMES NEXT in a connection
module _ {n : NamedNet} (g : Good (written Named) n) (limited : Limited n) (c : ℕ) (u : Connected (written Named) n c) (below : (n.lives c).replica.revision < length n.rows) where
  abbrev life : Life (written Named)
  life = n.lives c

  open life.replica use {revision as s, pending as p}

  abbrev pub row : Row NamedOp
  row = get_or n.rows s (record { by = 0; op = Noop 0 })

  abbrev under : List (Signed Named)
  under = replay (written Named) (take s n.rows)

  alive : Alive (written Named) c n.rows (n.server.seats c) life
  alive = g.alive c (g.seated.given c u)

  its_rest : drop s n.rows ≡ row ∷ drop (s + 1) n.rows
  its_rest = drop_more n.rows _ _ below

  pub whole : n.rows ≡ take s n.rows ++ row ∷ drop (s + 1) n.rows
  whole = sym (take-append-drop s n.rows) ∙ ap (λ es. take s n.rows ++ es) its_rest

  pub long : length (take s n.rows) ≡ s
  long = omega (arith, length-take s n.rows)

  pub sendable : Sendable (written Named) life.ended s
  sendable = subst (λ z. Sendable (written Named) z s) (sym (alive.unended u)) tt

  among : row ∈ n.rows
  among = mem_of (sym whole) (Memᴰ.append_right _ (Memᴰ.head refl))

  in_history : row.op ∈ n.server.history
  in_history = mem_of (sym g.recorded.history) (Memᴰ.map (λ (r : Row NamedOp). r.op) among)

  foreign : row.by ≢ c → site row.op ≢ life.site
  foreign = alive.copy.foreign row (mem_of (sym its_rest ∙ sym (rest_now (written Named) c n.rows (n.server.seats c) life s p _ (kept_now (written Named) alive) (alive.unended u))) (Memᴰ.head refl))

  own : row.by ≡ c → site row.op ≡ life.site
  own e = (g.lettered.owned row among).1 ∙ ap (λ d. (n.lives d).site) e

  same_test : (site (op_of row.op) == life.site) ≡ (row.by == c)
  same_test = ⊎_elim (λ e. eq-eqb _ _ (site_of row.op ∙ own e) ∙ sym (eq-eqb row.by c e)) (λ ne. ne_eqb _ _ (λ e. foreign ne (sym (site_of row.op) ∙ e)) ∙ sym (ne_eqb row.by c ne)) (cases_eq row.by c)

  fits : (written Named).Fits row.op under
  unfolding Fitting
  fits = (fitting_right (written Named) (ops (take s n.rows)) (ops (row ∷ drop (s + 1) n.rows)) []
      (subst (λ os. Fitting (written Named) os []) (ap (λ (es : List (Row NamedOp)). ops es) whole ∙ map-append (λ (r : Row NamedOp). r.op) (take s n.rows) _) g.recorded.fitting)).0

  text_here : life.replica.text ≡ apply_all (written Named) p under
  text_here = alive.copy.text

  pub seen_of : replica_of (seen_by (written Named) c row life.replica) ≡ seen_coded coded life.site (op_of row.op) (replica_of life.replica)
  seen_of = cond_of replica_of (row.by == c) (confirmed (written Named) life.replica) (received (written Named) row.op life.replica)
      ∙ ap₂ (cond (row.by == c)) (confirmed_of life.replica)
      (received_of row.op life.replica under (omega (arith, seen_short g limited s, limited.pending c)) fits (mine_fit life.site p under alive.copy.stack.mine))
      ∙ ap (λ b. cond b (confirmed coded (replica_of life.replica)) (received coded (op_of row.op) (replica_of life.replica))) (sym same_test)

  -- another's entry, as it is done to what stands on the screen
  others_letters : (x : Signed Named) → x ∈ (written Named).puts (over (written Named) row.op p).one → x ∈ (written Named).puts row.op
  others_letters x m = mem_of (puts_one (written Named) (written_laws Named) row.op p) m

  room_on_screen : (x : Signed Named) → x ∈ (written Named).puts (over (written Named) row.op p).one → length life.replica.text < 65792
  room_on_screen x m =
      let after : length (replay (written Named) (take (s + 1) n.rows)) ≡ length under + 1 =
      ap (λ es. length (replay (written Named) es)) (take_more n.rows s _ below) ∙ ap length (replay_snoc (written Named) (take s n.rows) row) ∙ longer row.op under fits x (others_letters x m) in
      omega (arith, ap length text_here, length_all life.site p under alive.copy.stack.mine, seen_short g limited (s + 1), limited.pending c)

  fits_screen : row.by ≢ c → refusal 65792 (op_of (over (written Named) row.op p).one) (text_of life.replica.text) ≡ None
  fits_screen ne = refusal_none 65792 _ life.replica.text
      (subst ((written Named).Fits (over (written Named) row.op p).one) (sym text_here) (over_fits (written Named) (written_laws Named) life.site _ under row.op p alive.copy.stack fits (foreign ne)))
      (λ x m. limited.letters row.op in_history x (others_letters x m)) room_on_screen

  passed_here : passed coded (op_of row.op) (replica_of life.replica) ≡ map_passed op_of (passed (written Named) row.op life.replica)
  passed_here = passed_of row.op life.replica under (omega (arith, seen_short g limited s, limited.pending c)) fits (mine_fit life.site p under alive.copy.stack.mine)

  pub not_refused : see_refusal 65792 life.site (record { place = s; op = op_of row.op }) (replica_of life.replica) ≡ None
  not_refused =
      let on_screen = λ (q : Passed Op). reasons (refusal 65792 q.one (text_of life.replica.text)) in
      cond-true _ _ _ (and_from _ _ (eq-eqb s s refl) (lt-ltb s 4294967294 (omega (arith, limited.history, recorded_length (written Named) (written_laws Named) n g.recorded))))
      ∙ ap (λ b. cond b None (on_screen (passed coded (op_of row.op) (replica_of life.replica)))) same_test
      ∙ cond_both (row.by == c) None (on_screen (passed coded (op_of row.op) (replica_of life.replica))) (λ o. o ≡ None) (λ _. refl)
      (λ t. ap on_screen passed_here ∙ ap reasons (fits_screen (eqb-false row.by c t)))

-- IN A ROOM: the entry that comes next for a connected peer
module _ {r : RoomState} (a : Reached r) (w : ℕ) (small : w < 4) (on : connected (scene w r) ≡ true) where
  abbrev c : ℕ
  c = a.connection w

  pub now : ((scene w r).peer.joined ≡ true) × Connected (written Named) a.net c
  now = connected_now a.shows w small on

  pub plays : Plays a.net w c (r.server.seats w) (scene w r).peer
  plays = plays_now a.shows w small now.0

  pub same_revision : (scene w r).peer.replica.revision ≡ (a.net.lives c).replica.revision
  same_revision = ap (λ q. q.revision) plays.replica

  pub same_rows : r.server.history ≡ map op_of (ops a.net.rows)
  same_rows = a.shows.history ∙ ap (map op_of) (good_net a).recorded.history

  pub queue_now : (scene w r).peer.queue ≡ map message_of (a.net.lives c).queue
  queue_now = plays.queue (ap (λ t. t.connected) plays.its_seat ∙ now.1)

  pub its_site : (a.net.lives c).site ≡ (scene w r).peer.site
  its_site = (a.shows.clients c plays.current.0).1 ∙ plays.client ∙ sym (site_now a.shows w small)

  -- it is the row that follows what it has seen
  module _ (e : Entry Op) (next : next_entry (scene w r) ≡ Some e) where
    parts : (ltb (scene w r).peer.replica.revision (length r.server.history) ≡ true) × (record { place = (scene w r).peer.replica.revision; op = get_or r.server.history (scene w r).peer.replica.revision (Noop 0) } ≡ e)
    parts = cond_some _ _ e next

    pub below : (a.net.lives c).replica.revision < length a.net.rows
    below = omega (arith, ltb-true _ _ parts.0, same_revision, ap length same_rows, length-map (ops a.net.rows) op_of, length-map a.net.rows (λ (x : Row NamedOp). x.op))

    abbrev coming : Entry Op
    coming = record { place = (a.net.lives c).replica.revision; op = op_of (row (good_net a) a.limited c now.1 below).op }

    pub same_entry : e ≡ coming
    same_entry = sym parts.1 ∙ ap₂ (λ (h : List Op) (i : ℕ). record { place = i; op = get_or h i (Noop 0) }) same_rows same_revision
        ∙ ap (λ (o : Op). record { place = (a.net.lives c).replica.revision; op = o })
        (get_or-map op_of (ops a.net.rows) _ (Noop 0) (Noop 0) (omega (arith, below, length-map a.net.rows (λ (x : Row NamedOp). x.op)))
        ∙ ap op_of (get_or-map (λ (x : Row NamedOp). x.op) a.net.rows _ (record { by = 0; op = Noop 0 }) (Noop 0) below))

    pub see_never_refused : see_refusal 65792 (scene w r).peer.site e (scene w r).peer.replica ≡ None
    see_never_refused = ap₂ (λ i x. see_refusal 65792 i x (scene w r).peer.replica) (sym its_site) same_entry
        ∙ ap (see_refusal 65792 (a.net.lives c).site coming) plays.replica ∙ not_refused (good_net a) a.limited c now.1 below

    pub sees_row : after_seeing 65792 (scene w r).peer.site e (scene w r).peer.replica ≡ replica_of (seen_by (written Named) c (row (good_net a) a.limited c now.1 below) (a.net.lives c).replica)
    sees_row = ap (λ o. unless o (seen_coded coded (scene w r).peer.site e.op (scene w r).peer.replica) (scene w r).peer.replica) see_never_refused
        ∙ ap₂ (λ i (x : Entry Op). seen_coded coded i x.op (scene w r).peer.replica) (sym its_site) same_entry
        ∙ ap (seen_coded coded (a.net.lives c).site coming.op) plays.replica ∙ sym (seen_of (good_net a) a.limited c now.1 below)

-- a peer that is connected
abbrev pub On : Scene → Type 0
On s = connected s ≡ true

-- and for which the entry e comes next, and is not refused
abbrev Accepts : Entry Op → Scene → Type 0
Accepts e s = (On s × (next_entry s ≡ Some e)) × (see_refusal 65792 s.peer.site e s.peer.replica ≡ None)

still_seen : (o : Option ClientRefusal) (e : Entry Op) (s : Scene) → connected (seen o e s) ≡ connected s
still_seen None e s = refl
still_seen (Some x) e s = refl

still_entry : (o : Option (Entry Op)) (s : Scene) → connected (seeing_entry o s) ≡ connected s
still_entry None s = refl
still_entry (Some e) s = still_seen (see_refusal 65792 s.peer.site e s.peer.replica) e s

-- it is connected afterwards
pub still_on : (s : Scene) → On s → On (seeing s)
still_on s h = still_entry (next_entry s) s ∙ h

-- WHAT IS DONE WITH THE PEER: the entry is seen, and then what is due is sent
abbrev seeing_next : Entry Op → Scene → Scene
seeing_next e s = record {
  server = s.server;
  peer = record { joined = s.peer.joined; site = s.peer.site; replica = after_seeing 65792 s.peer.site e s.peer.replica; queue = s.peer.queue; performed = s.peer.performed };
  events = s.events;
}

abbrev sending : List (Message Op) → Scene → Scene
sending q s = record {
  server = s.server;
  peer = record { joined = s.peer.joined; site = s.peer.site; replica = s.peer.replica; queue = s.peer.queue ++ q; performed = s.peer.performed };
  events = s.events;
}

limited_life : (n : NamedNet) → Limited n → (c : ℕ) (v : Life (written Named)) → Within v → Limited (with_life (written Named) c v n)
limited_life n l c v h = limited_lives l _ refl refl (everywhere (λ j f. Within f) c v n.lives h (λ j _. within l j)) l.concurrent

few_pending : (c : ℕ) (e : Row NamedOp) (q : Replica (written Named)) → length q.pending ≤ 256 → length (seen_by (written Named) c e q).pending ≤ 256
few_pending c e q h = cond_both (e.by == c) (confirmed (written Named) q) (received (written Named) e.op q) (λ z. length z.pending ≤ 256)
    (λ _. omega (arith, length-drop 1 q.pending)) (λ _. omega (arith, length_others (written Named).early (written Named).late e.op q.pending))

-- among steps such as P says client w may see, and may report
abbrev pub MaySee : ℕ → Steps → Type 0
MaySee w P = (n : NamedNet) (c : ℕ) (e : Row NamedOp) (before after : List (Row NamedOp)) (u : Current (written Named) n c) (q : n.rows ≡ before ++ e ∷ after)
    (l : length before ≡ (n.lives c).replica.revision) (s : Sendable (written Named) (n.lives c).ended (n.lives c).replica.revision) → (n.lives c).client ≡ w →
    P n (net_seeing (written Named) c e n) (sees c e before after u q l s)

abbrev pub MayReport : ℕ → Steps → Type 0
MayReport w P = (n : NamedNet) (c : ℕ) (u : Current (written Named) n c) → (n.lives c).client ≡ w → P n (after_reporting (written Named) c n) (reports c u)

module _ (w : ℕ) (small : w < 4) (P : Steps) (sees_allowed : MaySee w P) (reports_allowed : MayReport w P) where
  seeing_one : (e : Entry Op) → Carries w (λ s. On s × (next_entry s ≡ Some e)) P (seeing_next e)
  seeing_one e r a q =
      let x = plays a w small q.0 in
      let g = good_net a in
      let u = (now a w small q.0).1 in
      let b = below a w small q.0 e q.1 in
      let d = a.connection w in
      let f = row g a.limited d u b in
      onward_by P a (onward here (sees d f _ _ x.current (whole g a.limited d u b) (long g a.limited d u b) (sendable g a.limited d u b))
      (sees_allowed a.net d f _ _ x.current (whole g a.limited d u b) (long g a.limited d u b) (sendable g a.limited d u b) x.client)) a.connection
      (shows_life a.shows w small (now a w small q.0).0 (seeing_next e) (seeing_life (written Named) d f (a.net.lives d)) refl refl refl refl (now a w small q.0).0 (sees_row a w small q.0 e q.1) x.queue)
      (limited_life a.net a.limited d _ (record { pending = few_pending d f (a.net.lives d).replica (a.limited.pending d); before = a.limited.before d }))

  -- how far it has come
  abbrev told_revision : Scene → Scene
  told_revision s = sending (message.Revision s.peer.replica.revision ∷ []) s

  telling : Carries w On P told_revision
  telling r a q =
      let x = plays a w small q in
      let d = a.connection w in
      onward_by P a (onward here (reports d x.current) (reports_allowed a.net d x.current x.client)) a.connection
      (shows_life a.shows w small (now a w small q).0 told_revision (reporting (written Named) (a.net.lives d)) refl refl refl refl (now a w small q).0 x.replica
      (λ h. ap₂ (λ ms i. ms ++ message.Revision i ∷ []) (x.queue h) (same_revision a w small q) ∙ sym (map-append message_of (a.net.lives d).queue _)))
      (limited_life a.net a.limited d _ (record { pending = a.limited.pending d; before = a.limited.before d }))

  abbrev is_due : ℕ → Bool
  is_due n = ltb 0 n && eqb (n % 1024) 0

  sent_nothing : (s : Scene) → sending [] s ≡ s
  sent_nothing s = λ j. record {
    server = s.server;
    peer = record { joined = s.peer.joined; site = s.peer.site; replica = s.peer.replica; queue = append-nil s.peer.queue j; performed = s.peer.performed };
    events = s.events;
  }

  sent_due : (s : Scene) → sending (report (due s.peer.replica.revision)) s ≡ cond (is_due s.peer.replica.revision) (told_revision s) s
  sent_due s = by (is_due s.peer.replica.revision)
    where
      by : (b : Bool) → sending (report (cond b (Some s.peer.replica.revision) None)) s ≡ cond b (told_revision s) s
      by true = refl
      by false = sent_nothing s

  sending_due : Carries w On P (λ s. sending (report (due s.peer.replica.revision)) s)
  sending_due = carries_same w On P (λ s. cond (is_due s.peer.replica.revision) (told_revision s) s) _ (λ s _. sent_due s)
      (carries_cond w On P (λ s. is_due s.peer.replica.revision) told_revision (λ s. s) (λ r a q. telling r a q.0)
      (carries_nothing w (λ s. On s × (is_due s.peer.replica.revision ≡ false)) P (λ s. s) (λ s _. refl) (λ s _. refl)))

  -- the next entry, if there is one
  pub seeing_carries : Carries w On P seeing
  seeing_carries r a q = by (next_entry (scene w r)) refl
    where
      by : (o : Option (Entry Op)) → next_entry (scene w r) ≡ o → Onward P a.net (with w seeing r)
      by None e = carries_same w (λ s. next_entry s ≡ None) P (reported (event.Nothing ∷ [])) seeing (λ s h. ap (λ o. seeing_entry o s) h)
          (carries_nothing w (λ s. next_entry s ≡ None) P (reported (event.Nothing ∷ [])) (λ s _. refl) (λ s _. refl)) r a e
      by (Some x) e = carries_same w (Accepts x) P (λ s. sending (report (due (seeing_next x s).peer.replica.revision)) (seeing_next x s)) seeing
          (λ s h. ap (λ o. seeing_entry o s) h.0.1 ∙ ap (λ o. seen o x s) h.1)
          (carries_then w small (Accepts x) On P (seeing_next x) (λ s. sending (report (due s.peer.replica.revision)) s) (λ r a q. seeing_one x r a q.0) (λ s h. h.0.0) sending_due)
          r a ((q, e), see_never_refused a w small q x e)

  -- and the rest of the history
  pub seeing_up_to_carries : (n : ℕ) → Carries w On P (seeing_up_to n)
  unfolding seeing_up_to
  seeing_up_to_carries zero = carries_nothing w On P (λ s. s) (λ s _. refl) (λ s _. refl)
  seeing_up_to_carries (suc n) = carries_cond w On P (λ s. takes_entry (next_entry s) s) (λ s. seeing_up_to n (seeing s)) seeing
      (λ r a q. carries_then w small On On P seeing (seeing_up_to n) seeing_carries still_on (seeing_up_to_carries n) r a q.0) (λ r a q. seeing_carries r a q.0)

  pub seeing_all_carries : Carries w On P seeing_all
  seeing_all_carries r a q = seeing_up_to_carries (length r.server.history - (scene w r).peer.replica.revision) r a q
