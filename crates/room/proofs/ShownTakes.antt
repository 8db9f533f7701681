-- The server takes or hears what is under way from a peer: steps of the net, and what the room shows then. A connection with too much before it ends, and so does one that is refused.
use Rattle.std.proofs.Common.{◌≡◌, ℕ, zero, suc, ◌+◌, ◌<◌, ◌≤◌, Bool, true, false, cond, not, ◌&&◌, ⊎_elim, List, [], ◌∷◌, ◌++◌, map, length, take, Some, None, Err, Option, ltb, leb, ◌==◌, ◌≢◌, sym, refl, ap, ap₂, ◌∙◌, subst, subst₂, arith}
use Rattle.std.proofs.lemmas.Bool.{cases_eq, cases_lt, cond_both, cond-true, cond-false, eq-eqb, ne_eqb, leb-true, leb-false, lt-ltb, le-ltb, eqb-true, and_from, and_parts, or_from, and_left, and_right, false≢true}
use Rattle.std.proofs.lemmas.Bool.Decides.{nat_tests}
use Rattle.std.proofs.lemmas.List.{length-map, length-append, map_push, take-append-le, take_all, set-get_or}
use Rattle.operation.specs.declared.entry.Entry.{Entry}
use Rattle.operation.specs.declared.entry.Submission.{Submission}
use Rattle.operation.specs.Letters.{◌∈◌}
use Rattle.operation.specs.Edits.{site}
use Rattle.operation.specs.Entries.{operations, replaced}
use Rattle.operation.specs.Laws.{apply_all, Others}
use Rattle.operation.specs.Transform.{map_passed, highest}
use Rattle.text.specs.declared.refusal.Refusal.{Refusal as TextRefusal}
use Rattle.text.specs.declared.refusal.Refusal.TheVariants as text
use Rattle.text.specs.Coded.{coded}
use Rattle.text.specs.Texts.{refusal}
use Rattle.server.specs.declared.refusal.Refusal.{Refusal as ServerRefusal}
use Rattle.server.specs.declared.refusal.Refusal.TheVariants.{NotConnected}
use Rattle.server.specs.Sessions.{Seat, free, unseen, heard, told, ServerState, arrival, sender, taken}
use Rattle.server.specs.Seats.{bounded}
use Rattle.server.specs.Servers.{with_seat, lowest, bad_revision, history_full, take_refusal, overflowed, answered, after_taking, take_answer, take_after, hear_after}
use Rattle.network.specs.declared.message.Message.{Message}
use Rattle.network.specs.declared.message.Message.TheVariants as message
use Rattle.network.specs.Messages.{is_operation}
use Rattle.network.specs.Runs.{Deed, Life, takes, hears, ends, PathBy, here, onward, with_queue, ended_at, after_taking as net_taking, after_hearing, after_ending, Current, Connected, Reachable}
use Rattle.network.specs.Written.{Signed, written, Named}
use Rattle.network.proofs.Invariants.{Good}
use Rattle.network.proofs.Letters.{mem_parts, apply_all_snoc}
use Rattle.network.proofs.Seats.{everywhere}
use Rattle.network.proofs.Nets.{good}
use Rattle.network.proofs.Copies.{told_connected}
use Rattle.network.proofs.NeverRefused.{never_refused}
use Rattle.network.proofs.Queued.{Sent, queued, meets_fit}
use Rattle.network.proofs.Writing.{written_laws}
use Rattle.room.specs.declared.event.Event.TheVariants as event
use Rattle.room.specs.Scenes.{Op, PeerState, Scene, RoomState, scene, with, waiting, connected, without, is_accepted, arriving, refusal_of, accepted, taking_until, taking, taking_all, reported}
use Rattle.room.specs.Reached.{NamedNet, NamedOp, text_of, op_of, entry_of, submission_of, message_of, seat_of, replica_of, Plays, PlaysOrWaits, Shows, Limited, Reached, Onward}
use Rattle.room.proofs.Naming.{IsLetter, site_of, apply_of, others_fit, heard_of, told_of, length-unseen, arrival_of, sender_of, only_one, none_letter, none_length}
use Rattle.room.proofs.Paths.{path_append, path_weaker, at_place, at_other, Steps, Carries, carries_cond, carries_nothing, onward_by, site_now, plays_now, waits_now, plays_or_waits, current_kept, limited_lives, Within, within, shows_with, shows_same, shows_seat, enough_peers, scene_with, with_then, onward_then}
use Rattle.room.proofs.ShownJoins.{good_net, connected_shown, same_length, limited_ends, shows_ended}
use Rattle.room.proofs.ShownSees.{On, now, plays, queue_now, its_site}

-- AN OPERATION that a connected peer sent, the oldest under way
module _ {n : NamedNet} (reach : Reachable (written Named) n) (limited : Limited n) (c : ℕ) (u : Connected (written Named) n c)
    (m : Submission NamedOp) (rest : List (Message NamedOp)) (q : (n.lives c).queue ≡ message.Operation m ∷ rest) where
  good_now : Good (written Named) n
  good_now = good (written Named) (written_laws Named) n reach

  sent : Sent (written Named) c n.rows (n.server.seats c) (n.lives c) [] m
  sent = queued (written Named) (written_laws Named) n reach c u [] rest m q

  short : length sent.deed.before + length (n.server.seats c).concurrent < highest
  short = omega (arith, limited.before c sent.deed sent.done, limited.concurrent c)

  met : Others (written Named) (n.lives c).site (operations (unseen m.revision (n.server.seats c).concurrent)) sent.deed.before
  met = meets_fit (written Named) (written_laws Named) n good_now c u m sent

  pub arrives_as : arrival coded (submission_of m) (seat_of (n.server.seats c)) ≡ map_passed op_of (arrival (written Named) m (n.server.seats c))
  arrives_as = arrival_of m (n.server.seats c) sent.deed.before short sent.fits (others_fit _ _ _ met)

  pub sender_as : seat_of (sender (written Named) m (n.server.seats c)) ≡ sender coded (submission_of m) (seat_of (n.server.seats c))
  sender_as = sender_of m (n.server.seats c) sent.deed.before short sent.fits (others_fit _ _ _ met)

  pub sent_site : site (op_of m.op) ≡ (n.lives c).site
  sent_site = site_of m.op ∙ sent.site

-- WHAT IS NOT REFUSED
lowest_none : (x : Option TextRefusal) (bad full : Bool) → lowest x bad full ≡ None → (x ≡ None) × (full ≡ false)
lowest_none None true full e = absurd (cc)
lowest_none None false true e = absurd (cc)
lowest_none None false false e = (refl, refl)
lowest_none (Some text.BadLetter) bad full e = absurd (cc)
lowest_none (Some text.BeyondText) bad full e = absurd (cc)
lowest_none (Some text.TextFull) bad full e = absurd (cc)

-- a net without what is before its connections
abbrev unseated : NamedNet → NamedNet
unseated n = record {
  server = record { text = n.server.text; history = n.server.history; seats = λ j. free };
  rows = n.rows;
  lives = n.lives;
  connections = n.connections;
  typed = n.typed;
}

-- THE SERVER TAKES IT, before it ends connections
module _ {r : RoomState} (a : Reached r) (w : ℕ) (small : w < 4) (on : connected (scene w r) ≡ true) (m : Submission NamedOp) (rest : List (Message NamedOp))
    (q : (a.net.lives (a.connection w)).queue ≡ message.Operation m ∷ rest) where
  abbrev n : NamedNet
  n = a.net

  abbrev c : ℕ
  c = a.connection w

  abbrev after : NamedNet
  after = net_taking (written Named) c m rest n

  abbrev one : NamedOp
  one = (arrival (written Named) m (n.server.seats c)).one

  u : Connected (written Named) n c
  u = (now a w small on).1

  mine : Plays n w c (r.server.seats w) (scene w r).peer
  mine = plays a w small on

  arrives_here : arrival coded (submission_of m) (r.server.seats w) ≡ map_passed op_of (arrival (written Named) m (n.server.seats c))
  arrives_here = ap (arrival coded (submission_of m)) mine.its_seat ∙ arrives_as a.reachable a.limited c u m rest q

  abbrev coded_one : Op
  coded_one = (arrival coded (submission_of m) (r.server.seats w)).one

  one_here : coded_one ≡ op_of one
  one_here = ap (λ p. p.one) arrives_here

  abbrev as_told : Entry Op
  as_told = record { place = length r.server.history; op = coded_one }

  entry_here : as_told ≡ entry_of (record { place = length n.server.history; op = one })
  entry_here = ap₂ (λ (p : ℕ) (o : Op). record { place = p; op = o }) (same_length a.shows) one_here

  -- the room then
  abbrev taken_first : Scene → Scene
  taken_first s = record { server = taken coded w (submission_of m) s.server; peer = without (map message_of rest) s.peer; events = [] }

  same_client : (d : ℕ) → (after.lives d).client ≡ (n.lives d).client
  same_client = everywhere (λ j l. l.client ≡ (n.lives j).client) c (with_queue (written Named) rest (n.lives c)) n.lives refl (λ j _. refl)

  current_then : (d : ℕ) → Current (written Named) n d → Current (written Named) after d
  current_then = current_kept n after refl same_client

  life_then : after.lives c ≡ with_queue (written Named) rest (n.lives c)
  life_then = at_place c c _ n.lives refl

  own_seat : (taken coded w (submission_of m) r.server).seats w ≡ seat_of (after.server.seats c)
  own_seat = at_place w w _ (λ j. told as_told (r.server.seats j)) refl ∙ ap (sender coded (submission_of m)) mine.its_seat ∙ sym (sender_as a.reachable a.limited c u m rest q)
      ∙ ap seat_of (sym (at_place c c _ (λ j. told (record { place = length n.server.history; op = one }) (n.server.seats j)) refl))

  other_seat : (v : ℕ) → v ≢ w → (taken coded w (submission_of m) r.server).seats v ≡ told as_told (r.server.seats v)
  other_seat v ne = at_other w v _ (λ j. told as_told (r.server.seats j)) ne

  plays_then : (v : ℕ) → v ≢ w → (p : PeerState) → Plays n v (a.connection v) (r.server.seats v) p → Plays after v (a.connection v) ((taken coded w (submission_of m) r.server).seats v) p
  plays_then v ne p x =
      let far : a.connection v ≢ c = λ e. ne (sym x.client ∙ ap (λ d. (n.lives d).client) e ∙ mine.client) in
      let same = at_other c (a.connection v) (with_queue (written Named) rest (n.lives c)) n.lives far in
      record {
        current = current_then (a.connection v) x.current;
        client = same_client (a.connection v) ∙ x.client;
        replica = x.replica ∙ ap (λ l. replica_of l.replica) (sym same);
        its_seat = other_seat v ne ∙ ap₂ told entry_here x.its_seat ∙ sym (told_of (record { place = length n.server.history; op = one }) (n.server.seats (a.connection v)))
            ∙ ap seat_of (sym (at_other c (a.connection v) _ (λ j. told (record { place = length n.server.history; op = one }) (n.server.seats j)) far));
        queue = λ e. x.queue (sym (told_connected coded as_told (r.server.seats v)) ∙ ap (λ s. s.connected) (sym (other_seat v ne)) ∙ e) ∙ ap (λ l. map message_of l.queue) (sym same);
      }

  shows_taken : Shows after a.connection (with w taken_first r)
  shows_taken = shows_with a.shows w small taken_first (record {
    text = ap₂ coded.apply one_here a.shows.text ∙ apply_of one n.server.text;
    history = ap₂ (λ h (o : Op). h ++ o ∷ []) a.shows.history one_here ∙ sym (map_push op_of n.server.history one);
    site = site_now a.shows w small;
    its = subst (λ b. PlaysOrWaits b after w c ((taken coded w (submission_of m) r.server).seats w) (without (map message_of rest) (scene w r).peer)) (sym (now a w small on).0) (record {
      current = current_then c mine.current;
      client = same_client c ∙ mine.client;
      replica = mine.replica ∙ ap (λ l. replica_of l.replica) (sym life_then);
      its_seat = own_seat;
      queue = λ _. ap (λ l. map message_of l.queue) (sym life_then);
    });
    rest = λ v h ne. plays_or_waits (scene v r).peer.joined (plays_then v ne _)
        (λ x. record { unknown = λ d h e. x.unknown d h (sym (same_client d) ∙ e); no_seat = other_seat v ne ∙ ap (told as_told) x.no_seat; text = x.text }) (a.shows.peers v h).1;
    others = λ i h. other_seat i (omega arith) ∙ ap (told as_told) (a.shows.others i h);
    clients = everywhere (λ j l. j < n.connections → (l.client < 4) × (l.site ≡ l.client)) c (with_queue (written Named) rest (n.lives c)) n.lives (a.shows.clients c) (λ j _. a.shows.clients j);
  })

  -- the limits, but for what is before a connection
  text_made : apply_all (written Named) n.server.history [] ≡ n.server.text
  text_made = ap (λ os. apply_all (written Named) os []) (good_net a).recorded.history ∙ sym (good_net a).recorded.text

  text_short : length n.server.text ≤ 65536
  text_short = subst (λ (t : List (Signed Named)). length t ≤ 65536) (ap (λ os. apply_all (written Named) os []) (take_all (length n.server.history) n.server.history (omega arith)) ∙ text_made) (a.limited.texts (length n.server.history))

  module _ (none : take_refusal 65536 (submission_of m) (r.server.seats w) r.server ≡ None) where
    fit_and_room : (refusal 65536 (op_of one) (text_of n.server.text) ≡ None) × (history_full (length r.server.history) ≡ false)
    fit_and_room = let h = lowest_none _ _ _ none in (ap₂ (refusal 65536) (sym one_here) (sym a.shows.text) ∙ h.0, h.1)

    texts_then : (s : ℕ) → length (apply_all (written Named) (take s (n.server.history ++ one ∷ [])) []) ≤ 65536
    texts_then s = ⊎_elim
        (λ h. subst (λ (t : List (Signed Named)). length t ≤ 65536)
        (ap ((written Named).apply one) (sym text_made) ∙ sym (apply_all_snoc (written Named) n.server.history one [])
        ∙ ap (λ os. apply_all (written Named) os []) (sym (take_all s (n.server.history ++ one ∷ []) (omega (arith, length-append n.server.history (one ∷ []))))))
        (none_length 65536 one n.server.text text_short fit_and_room.0))
        (λ h. subst (λ os. length (apply_all (written Named) os []) ≤ 65536) (sym (take-append-le s n.server.history (one ∷ []) h)) (a.limited.texts s))
        (cases_lt (length n.server.history) s)

    letters_then : (o : NamedOp) → o ∈ n.server.history ++ one ∷ [] → (x : Signed Named) → x ∈ (written Named).puts o → IsLetter x
    letters_then o i x h = ⊎_elim (λ j. a.limited.letters o j x h)
        (λ j. only_one (λ (o : NamedOp). x ∈ (written Named).puts o → IsLetter x) one o (none_letter 65536 one n.server.text fit_and_room.0 x) j h)
        (mem_parts n.server.history i)

    limited_taken : Limited (unseated after)
    limited_taken = record {
      texts = texts_then;
      letters = letters_then;
      history = omega (arith, leb-false _ _ fit_and_room.1, same_length a.shows, length-append n.server.history (one ∷ []));
      pending = everywhere (λ j l. length l.replica.pending ≤ 256) c (with_queue (written Named) rest (n.lives c)) n.lives (a.limited.pending c) (λ j _. a.limited.pending j);
      before = everywhere (λ j (l : Life (written Named)). (d : Deed (written Named)) → d ∈ l.deeds → length d.before ≤ 65792) c (with_queue (written Named) rest (n.lives c)) n.lives (a.limited.before c) (λ j _. a.limited.before j);
      concurrent = λ j. omega arith;
      serials = a.limited.serials;
    }

-- among steps such as P says what comes over client w's connection may be taken, and heard, and any connection may end
abbrev pub MayTake : ℕ → Steps → Type 0
MayTake w P = (n : NamedNet) (c : ℕ) (m : Submission NamedOp) (rest : List (Message NamedOp)) (u : Connected (written Named) n c) (q : (n.lives c).queue ≡ message.Operation m ∷ rest) →
    (n.lives c).client ≡ w → P n (net_taking (written Named) c m rest n) (takes c m rest u q)

abbrev pub MayHear : ℕ → Steps → Type 0
MayHear w P = (n : NamedNet) (c i : ℕ) (rest : List (Message NamedOp)) (u : Connected (written Named) n c) (q : (n.lives c).queue ≡ message.Revision i ∷ rest) →
    (n.lives c).client ≡ w → P n (after_hearing (written Named) c i rest n) (hears c i rest u q)

abbrev pub AnyMayEnd : Steps → Type 0
AnyMayEnd P = (n : NamedNet) (c : ℕ) (u : Connected (written Named) n c) → P n (after_ending (written Named) c n) (ends c u)

-- CONNECTIONS END THAT HAVE TOO MUCH BEFORE THEM
-- a net on the way: it shows the room, and what is before a connection is too much at most where that lasts
record Swept (P : Steps) (n : NamedNet) (c : ℕ → ℕ) (r : RoomState) : Type 0 where
  net : NamedNet
  path : PathBy (written Named) P n net
  shows : Shows net c r
  limits : Limited (unseated net)
  ended_short : (d : ℕ) → (net.server.seats d).connected ≡ false → length (net.server.seats d).concurrent ≤ 4096

abbrev with_server_of : RoomState → ServerState coded → RoomState
with_server_of r v = record { server = v; peers = r.peers; events = r.events }

swept_same : {P : Steps} {n : NamedNet} {c : ℕ → ℕ} {r : RoomState} (v : ServerState coded) → v ≡ r.server → Swept P n c r → Swept P n c (with_server_of r v)
swept_same {r = r} v e x = record { net = x.net; path = x.path; shows = shows_same x.shows e refl; limits = x.limits; ended_short = x.ended_short }

with_same_seat : (k : ℕ) (v : ServerState coded) (x : Seat Op) → v.seats k ≡ x → with_seat k x v ≡ v
with_same_seat k v x e = let f = same_at in λ i. record { text = v.text; history = v.history; seats = λ j. f j i }
  where
    same_at : (j : ℕ) → (with_seat k x v).seats j ≡ v.seats j
    same_at j = cond_both (j == k) x (v.seats j) (λ s. s ≡ v.seats j) (λ t. sym e ∙ ap v.seats (sym (eqb-true j k t))) (λ _. refl)

-- of the first k, all but peer w have no connection any more if too much is before them
abbrev is_swept : ℕ → ℕ → ℕ → Bool
is_swept w k j = ltb j k && not (j == w)

abbrev swept : ℕ → ℕ → ServerState coded → ServerState coded
swept w k v = record { text = v.text; history = v.history; seats = λ j. cond (is_swept w k j) (bounded (v.seats j)) (v.seats j) }

module _ (w : ℕ) (v : ServerState coded) where
  swept_none : swept w 0 v ≡ v
  swept_none =
      let e = λ (j : ℕ). cond-false (is_swept w 0 j) (bounded (v.seats j)) (v.seats j) (grind (arith, nat_tests)) in
      λ i. record { text = v.text; history = v.history; seats = λ j. e j i }

  same_below : (j k : ℕ) → j ≢ k → ltb j (suc k) ≡ ltb j k
  same_below j k ne = grind (arith, nat_tests)

  -- one more
  swept_more : (k : ℕ) (x : Seat Op) → cond (not (k == w)) (bounded (v.seats k)) (v.seats k) ≡ x → swept w (suc k) v ≡ with_seat k x (swept w k v)
  swept_more k x e = let f = more_at in λ i. record { text = v.text; history = v.history; seats = λ j. f j i }
    where
      more_at : (j : ℕ) → (swept w (suc k) v).seats j ≡ (with_seat k x (swept w k v)).seats j
      more_at j = ⊎_elim
          (λ (h : j ≡ k). ap (λ i. cond (ltb i (suc k) && not (i == w)) (bounded (v.seats i)) (v.seats i)) h
          ∙ ap (λ b. cond (b && not (k == w)) (bounded (v.seats k)) (v.seats k)) (lt-ltb k (suc k) (omega arith)) ∙ e ∙ sym (cond-true (j == k) x _ (eq-eqb j k h)))
          (λ ne. ap (λ b. cond (b && not (j == w)) (bounded (v.seats j)) (v.seats j)) (same_below j k ne) ∙ sym (cond-false (j == k) x _ (ne_eqb j k ne)))
          (cases_eq j k)

  swept_all : w < 4 → ((j : ℕ) → 4 ≤ j → v.seats j ≡ free) → swept w 4 v ≡ overflowed w v
  swept_all small others = let f = all_at in λ i. record { text = v.text; history = v.history; seats = λ j. f j i }
    where
      all_at : (j : ℕ) → (swept w 4 v).seats j ≡ (overflowed w v).seats j
      all_at j = ⊎_elim
          (λ (h : j ≡ w). cond-false (is_swept w 4 j) _ _ (and_right (ltb j 4) _ (ap not (eq-eqb j w h))) ∙ sym (cond-true (j == w) _ _ (eq-eqb j w h)))
          (λ ne. ⊎_elim
          (λ h. cond-true (is_swept w 4 j) _ _ (and_from _ _ (lt-ltb j 4 h) (ap not (ne_eqb j w ne))))
          (λ h. cond-false (is_swept w 4 j) _ _ (and_left _ _ (le-ltb j 4 h)) ∙ others j h ∙ sym (ap bounded (others j h)))
          (cases_lt j 4) ∙ sym (cond-false (j == w) _ _ (ne_eqb j w ne)))
          (cases_eq j w)

module _ (P : Steps) (ends_allowed : AnyMayEnd P) where
  -- peer v has too much before it
  one_ends : {n : NamedNet} {c : ℕ → ℕ} {r : RoomState} (x : Swept P n c r) (v : ℕ) → v < 4 → 4096 < length (r.server.seats v).concurrent → Swept P n c (with_server_of r (with_seat v free r.server))
  one_ends {n} {c} {r} x v small many = by (scene v r).peer.joined refl
    where
      played : (scene v r).peer.joined ≡ true → Plays x.net v (c v) (r.server.seats v) (scene v r).peer
      played j = plays_now x.shows v small j

      many_there : (scene v r).peer.joined ≡ true → 4096 < length (x.net.server.seats (c v)).concurrent
      many_there j = omega (arith, many, ap (λ t. length t.concurrent) (played j).its_seat, length-map (x.net.server.seats (c v)).concurrent entry_of)

      its_end : (scene v r).peer.joined ≡ true → (b : Bool) → (x.net.server.seats (c v)).connected ≡ b → Swept P n c (with_server_of r (with_seat v free r.server))
      its_end j false u = absurd (omega (arith, many_there j, x.ended_short (c v) u))
      its_end j true u = record {
        net = after_ending (written Named) (c v) x.net;
        path = onward x.path (ends (c v) u) (ends_allowed x.net (c v) u);
        shows = shows_same (shows_ended x.shows v small j) (ap (λ i. with_seat i free r.server) (sym (site_now x.shows v small))) (sym (set-get_or r.peers v (waiting v)));
        limits = limited_lives x.limits _ refl refl (within (limited_ends (unseated x.net) x.limits (c v))) (λ j. omega arith);
        ended_short = everywhere (λ j t. t.connected ≡ false → length t.concurrent ≤ 4096) (c v) free x.net.server.seats (λ _. omega arith) (λ j _. x.ended_short j);
      }

      by : (b : Bool) → (scene v r).peer.joined ≡ b → Swept P n c (with_server_of r (with_seat v free r.server))
      by true j = its_end j (x.net.server.seats (c v)).connected refl
      by false j = absurd (let e = ap (λ t. length t.concurrent) (waits_now x.shows v small j).no_seat in omega arith)

  sweeps_one : {n : NamedNet} {c : ℕ → ℕ} (r : RoomState) (w : ℕ) (v : ServerState coded) (k : ℕ) → k < 4 → Swept P n c (with_server_of r (swept w k v)) → Swept P n c (with_server_of r (swept w (suc k) v))
  sweeps_one {n} {c} r w v k small x = by (not (k == w)) refl
    where
      here_still : (swept w k v).seats k ≡ v.seats k
      here_still = cond-false (is_swept w k k) _ _ (and_left _ _ (le-ltb k k (omega arith)))

      same_then : cond (not (k == w)) (bounded (v.seats k)) (v.seats k) ≡ v.seats k → Swept P n c (with_server_of r (swept w (suc k) v))
      same_then e = swept_same (swept w (suc k) v) (swept_more w v k (v.seats k) e ∙ with_same_seat k (swept w k v) (v.seats k) here_still) x

      many : (b : Bool) → leb (length (v.seats k).concurrent) 4096 ≡ b → not (k == w) ≡ true → Swept P n c (with_server_of r (swept w (suc k) v))
      many true h o = same_then (cond-true _ _ _ o ∙ cond-true _ _ _ h)
      many false h o = swept_same (swept w (suc k) v) (swept_more w v k free (cond-true _ _ _ o ∙ cond-false _ _ _ h))
          (one_ends x k small (omega (arith, leb-false _ _ h, ap (λ t. length t.concurrent) here_still)))

      by : (b : Bool) → not (k == w) ≡ b → Swept P n c (with_server_of r (swept w (suc k) v))
      by true o = many (leb (length (v.seats k).concurrent) 4096) refl o
      by false o = same_then (cond-false _ _ _ o)

  sweeps : {n : NamedNet} {c : ℕ → ℕ} (r : RoomState) (w : ℕ) (v : ServerState coded) (k : ℕ) → k ≤ 4 → Swept P n c (with_server_of r v) → Swept P n c (with_server_of r (swept w k v))
  sweeps r w v zero h x = swept_same (swept w 0 v) (swept_none w v) x
  sweeps r w v (suc k) h x = sweeps_one r w v k (omega arith) (sweeps r w v k (omega arith) x)

-- entries with other operations are no more than they were
length-replaced : {O : Type 0} (es : List (Entry O)) (os : List O) → length (replaced es os) ≤ length es
unfolding replaced
length-replaced [] os = omega arith
length-replaced (e ∷ es) [] = omega arith
length-replaced (e ∷ es) (o ∷ os) = omega (arith, length-replaced es os)

few_bounded : (s : Seat Op) → length (bounded s).concurrent ≤ 4096
few_bounded s = cond_both (leb (length s.concurrent) 4096) s free (λ t. length t.concurrent ≤ 4096) (λ h. leb-true _ _ h) (λ h. omega arith)

refused_with : {A : Type 0} (o : Option ServerRefusal) (x : A) → refusal_of (answered o x) ≡ o
refused_with None x = refl
refused_with (Some e) x = refl

-- THE SERVER'S CALL, for a site that is connected
module _ (v : ServerState coded) (i : ℕ) (m : Submission Op) (its : site m.op ≡ i) (on : (v.seats i).connected ≡ true) where
  takes_at : take_after 65536 m v ≡ after_taking (take_refusal 65536 m (v.seats i) v) i m v
  takes_at = ap (λ j. cond (v.seats j).connected (after_taking (take_refusal 65536 m (v.seats j) v) j m v) v) its ∙ cond-true _ _ _ on

  refused_at : refusal_of (take_answer 65536 m v) ≡ take_refusal 65536 m (v.seats i) v
  refused_at = ap refusal_of (ap (λ j. cond (v.seats j).connected (answered (take_refusal 65536 m (v.seats j) v) (record { place = length v.history; op = (arrival coded m (v.seats j)).one })) (Err NotConnected)) its ∙ cond-true _ _ _ on)
      ∙ refused_with (take_refusal 65536 m (v.seats i) v) _

-- what is accepted was not refused
accepted_none : (o : Option ServerRefusal) → is_accepted o ≡ true → o ≡ None
accepted_none None h = refl
accepted_none (Some e) h = absurd (false≢true h)

-- A REVISION that a connected peer sent is never refused
module _ {r : RoomState} (a : Reached r) (w : ℕ) (small : w < 4) (on : connected (scene w r) ≡ true) (i : ℕ) (rest : List (Message NamedOp))
    (q : (a.net.lives (a.connection w)).queue ≡ message.Revision i ∷ rest) where
  good_revision : bad_revision (length r.server.history) i (r.server.seats w) ≡ false
  good_revision =
      let h = (never_refused (written Named) (written_laws Named)).revision a.net a.reachable (a.connection w) (now a w small on).1 i rest q in
      or_from _ _ (le-ltb (length r.server.history) i (omega (arith, h.1, same_length a.shows))) (le-ltb i (r.server.seats w).said (omega (arith, h.0, ap (λ t. t.said) (plays a w small on).its_seat)))

  seat_is_on : (r.server.seats w).connected ≡ true
  seat_is_on = ap (λ t. t.connected) (plays a w small on).its_seat ∙ (now a w small on).1

  hears_at : hear_after w i r.server ≡ with_seat w (heard i (r.server.seats w)) r.server
  hears_at = cond-true _ _ _ seat_is_on ∙ ap (λ s. with_seat w s r.server) (cond-false _ _ _ good_revision)

module _ (w : ℕ) (small : w < 4) (P : Steps) (takes_allowed : MayTake w P) (hears_allowed : MayHear w P) (ends_allowed : AnyMayEnd P) where
  module _ {r : RoomState} (a : Reached r) (on : connected (scene w r) ≡ true) (m : Submission NamedOp) (rest : List (Message NamedOp)) (q : (a.net.lives (a.connection w)).queue ≡ message.Operation m ∷ rest) where
    it_plays : Plays a.net w (a.connection w) (r.server.seats w) (scene w r).peer
    it_plays = plays a w small on

    it_is_on : Connected (written Named) a.net (a.connection w)
    it_is_on = (now a w small on).1

    seat_on : (r.server.seats w).connected ≡ true
    seat_on = ap (λ t. t.connected) it_plays.its_seat ∙ it_is_on

    it_sent : site (submission_of m).op ≡ w
    it_sent = sent_site a.reachable a.limited (a.connection w) it_is_on m rest q ∙ its_site a w small on ∙ site_now a.shows w small

    abbrev arrives : Scene → Scene
    arrives = arriving (message.Operation (submission_of m)) (map message_of rest)

    abbrev taken_room : RoomState
    taken_room = with w (taken_first a w small on m rest q) r

    started : take_refusal 65536 (submission_of m) (r.server.seats w) r.server ≡ None → Swept P a.net a.connection taken_room
    started none = record {
      net = net_taking (written Named) (a.connection w) m rest a.net;
      path = onward here (takes (a.connection w) m rest it_is_on q) (takes_allowed a.net (a.connection w) m rest it_is_on q it_plays.client);
      shows = shows_taken a w small on m rest q;
      limits = limited_taken a w small on m rest q none;
      ended_short = everywhere (λ j t. t.connected ≡ false → length t.concurrent ≤ 4096) (a.connection w) (sender (written Named) m (a.net.server.seats (a.connection w)))
          (λ j. told (record { place = length a.net.server.history; op = (arrival (written Named) m (a.net.server.seats (a.connection w))).one }) (a.net.server.seats j))
          (λ e. absurd (false≢true (sym e ∙ it_is_on)))
          (λ j _ e. subst (λ (t : Seat NamedOp). length t.concurrent ≤ 4096) (sym (cond-false (a.net.server.seats j).connected _ _ (sym (told_connected (written Named) _ (a.net.server.seats j)) ∙ e))) (a.limited.concurrent j));
    }

    abbrev server_then : ServerState coded
    server_then = taken coded w (submission_of m) r.server

    few_own : length (server_then.seats w).concurrent ≤ 4096
    few_own = subst (λ (t : Seat Op). length t.concurrent ≤ 4096) (sym (at_place w w _ (λ j. told (as_told a w small on m rest q) (r.server.seats j)) refl))
        (omega (
          arith,
          length-replaced (unseen m.revision (r.server.seats w).concurrent) (arrival coded (submission_of m) (r.server.seats w)).others,
          length-unseen m.revision (r.server.seats w).concurrent,
          ap (λ t. length t.concurrent) it_plays.its_seat,
          length-map (a.net.server.seats (a.connection w)).concurrent entry_of,
          a.limited.concurrent (a.connection w),
        ))

    all_swept : swept w 4 server_then ≡ overflowed w server_then
    all_swept = swept_all w server_then small (shows_taken a w small on m rest q).others

    few_shown : (v : ℕ) → length ((swept w 4 server_then).seats v).concurrent ≤ 4096
    few_shown v = subst (λ (z : ServerState coded). length (z.seats v).concurrent ≤ 4096) (sym all_swept)
        (cond_both (v == w) (server_then.seats v) (bounded (server_then.seats v)) (λ t. length t.concurrent ≤ 4096)
        (λ h. subst (λ j. length (server_then.seats j).concurrent ≤ 4096) (sym (eqb-true v w h)) few_own) (λ _. few_bounded (server_then.seats v)))

    few_all : (x : Swept P a.net a.connection (with_server_of taken_room (swept w 4 server_then))) (d : ℕ) → length (x.net.server.seats d).concurrent ≤ 4096
    few_all x d = by (x.net.server.seats d).connected refl
      where
        reach : Reachable (written Named) x.net
        reach = path_append (written Named) _ a.reachable (path_weaker (written Named) P _ (λ n m s h. tt) x.path)

        by : (b : Bool) → (x.net.server.seats d).connected ≡ b → length (x.net.server.seats d).concurrent ≤ 4096
        by false u = x.ended_short d u
        by true u = omega (arith, ap (λ t. length t.concurrent) (connected_shown (good (written Named) (written_laws Named) x.net reach) x.shows d u).1, length-map (x.net.server.seats d).concurrent entry_of, few_shown (x.net.lives d).client)

    taken_onward : take_refusal 65536 (submission_of m) (r.server.seats w) r.server ≡ None → Onward P a.net (with w arrives r)
    taken_onward none =
        let all = sweeps P ends_allowed taken_room w server_then 4 (omega arith) (started none) in
        let server : (arrives (scene w r)).server ≡ swept w 4 server_then = takes_at r.server w (submission_of m) it_sent seat_on ∙ ap (λ o. after_taking o w (submission_of m) r.server) none ∙ sym all_swept in
        onward_by P a all.path a.connection (shows_same all.shows server refl) (limited_lives all.limits all.net refl refl (λ d. within all.limits d) (few_all all))

    refused_onward : (e : ServerRefusal) → take_refusal 65536 (submission_of m) (r.server.seats w) r.server ≡ Some e → Onward P a.net (with w arrives r)
    refused_onward e some =
        let c = a.connection w in
        onward_by P a (onward here (ends c it_is_on) (ends_allowed a.net c it_is_on)) a.connection
        (shows_seat a.shows w small (now a w small on).0 arrives free (ended_at (written Named) (length a.net.server.history) (a.net.lives c)) refl refl
        (takes_at r.server w (submission_of m) it_sent seat_on ∙ ap (λ o. after_taking o w (submission_of m) r.server) some) refl (now a w small on).0 it_plays.replica (λ h. absurd (false≢true h)))
        (limited_ends a.net a.limited c)

    operation_onward : Onward P a.net (with w arrives r)
    operation_onward = by (take_refusal 65536 (submission_of m) (r.server.seats w) r.server) refl
      where
        by : (o : Option ServerRefusal) → take_refusal 65536 (submission_of m) (r.server.seats w) r.server ≡ o → Onward P a.net (with w arrives r)
        by None e = taken_onward e
        by (Some x) e = refused_onward x e

    -- whoever is not refused stays connected
    on_after_operation : accepted (message.Operation (submission_of m)) (scene w r) ≡ true → On (arrives (scene w r))
    on_after_operation h =
        let none = accepted_none (take_refusal 65536 (submission_of m) (r.server.seats w) r.server) (ap is_accepted (sym (refused_at r.server w (submission_of m) it_sent seat_on)) ∙ h) in
        and_from _ _ (now a w small on).0 (
        ap (λ j. ((arrives (scene w r)).server.seats j).connected) (site_now a.shows w small)
        ∙ ap (λ (z : ServerState coded). (z.seats w).connected) (takes_at r.server w (submission_of m) it_sent seat_on ∙ ap (λ o. after_taking o w (submission_of m) r.server) none)
        ∙ ap (λ (t : Seat Op). t.connected) (at_place w w (server_then.seats w) (λ j. bounded (server_then.seats j)) refl ∙ at_place w w _ (λ j. told (as_told a w small on m rest q) (r.server.seats j)) refl)
        ∙ seat_on)

  module _ {r : RoomState} (a : Reached r) (on : connected (scene w r) ≡ true) (i : ℕ) (rest : List (Message NamedOp)) (q : (a.net.lives (a.connection w)).queue ≡ message.Revision i ∷ rest) where
    abbrev hears_now : Scene → Scene
    hears_now = arriving (message.Revision i) (map message_of rest)

    abbrev its_seat : Seat NamedOp
    its_seat = a.net.server.seats (a.connection w)

    server_hears : (hears_now (scene w r)).server ≡ with_seat w (heard i (r.server.seats w)) r.server
    server_hears = ap (λ j. hear_after j i r.server) (site_now a.shows w small) ∙ hears_at a w small on i rest q

    revision_onward : Onward P a.net (with w hears_now r)
    revision_onward =
        let c = a.connection w in
        let x = plays a w small on in
        let life = with_queue (written Named) rest (a.net.lives c) in
        onward_by P a (onward here (hears c i rest (now a w small on).1 q) (hears_allowed a.net c i rest (now a w small on).1 q x.client)) a.connection
        (shows_seat a.shows w small (now a w small on).0 hears_now (heard i its_seat) life refl refl
        (server_hears ∙ ap (λ t. with_seat w t r.server) (ap (heard i) x.its_seat ∙ sym (heard_of i its_seat))) refl (now a w small on).0 x.replica (λ _. refl))
        (limited_lives a.limited _ refl refl (everywhere (λ j l. Within l) c life a.net.lives (record { pending = a.limited.pending c; before = a.limited.before c }) (λ j _. within a.limited j))
        (everywhere (λ j t. length t.concurrent ≤ 4096) c (heard i its_seat) a.net.server.seats (omega (arith, length-unseen i its_seat.concurrent, a.limited.concurrent c)) (λ j _. a.limited.concurrent j)))

    on_after_revision : On (hears_now (scene w r))
    on_after_revision = and_from _ _ (now a w small on).0 (
        ap (λ j. ((hears_now (scene w r)).server.seats j).connected) (site_now a.shows w small) ∙ ap (λ (z : ServerState coded). (z.seats w).connected) server_hears
        ∙ ap (λ (t : Seat Op). t.connected) (at_place w w (heard i (r.server.seats w)) r.server.seats refl) ∙ seat_is_on a w small on i rest q)

  -- whichever it is
  record Arrived {r : RoomState} (a : Reached r) (m : Message Op) (q : List (Message Op)) : Type 0 where
    onward : Onward P a.net (with w (arriving m q) r)
    still : accepted m (scene w r) ≡ true → On (arriving m q (scene w r))

  arrived : {r : RoomState} (a : Reached r) → On (scene w r) → (m : Message Op) (q : List (Message Op)) → (scene w r).peer.queue ≡ m ∷ q → Arrived a m q
  arrived {r} a on m q e = by (a.net.lives (a.connection w)).queue refl (sym (queue_now a w small on) ∙ e)
    where
      by : (ms : List (Message NamedOp)) → (a.net.lives (a.connection w)).queue ≡ ms → map message_of ms ≡ m ∷ q → Arrived a m q
      by [] h k = absurd (cc)
      by (message.Operation o ∷ rest) h k =
          let e : message.Operation (submission_of o) ≡ m = cc in
          let f : map message_of rest ≡ q = cc in
          subst₂ (λ m q. Arrived a m q) e f (record { onward = operation_onward a on o rest h; still = on_after_operation a on o rest h })
      by (message.Revision i ∷ rest) h k =
          let e : message.Revision i ≡ m = cc in
          let f : map message_of rest ≡ q = cc in
          subst₂ (λ m q. Arrived a m q) e f (record { onward = revision_onward a on i rest h; still = λ _. on_after_revision a on i rest h })

  pub arriving_carries : (m : Message Op) (q : List (Message Op)) → Carries w (λ s. On s × (s.peer.queue ≡ m ∷ q)) P (arriving m q)
  arriving_carries m q r a u = (arrived a u.0 m q u.1).onward

  -- one more, and then the others
  one_further : (m : Message Op) (q : List (Message Op)) (f : Scene → Scene) → Carries w (λ s. On s × (s.peer.queue ≡ q)) P f →
      Carries w (λ s. (On s × (s.peer.queue ≡ m ∷ q)) × (accepted m s ≡ true)) P (λ s. f (arriving m q s))
  one_further m q f x r a h =
      let o = arrived a h.0.0 m q h.0.1 in
      let e = enough_peers a w small in
      subst (Onward P a.net) (sym (with_then w (arriving m q) f r e)) (onward_then P o.onward
      (x (with w (arriving m q) r) o.onward.reached (subst (λ t. On t × (t.peer.queue ≡ q)) (sym (scene_with w (arriving m q) r e)) (o.still h.1, refl))))

  pub taking_until_carries : (stop : Message Op → Bool) (f : Scene → Scene) → Carries w On P f → (q : List (Message Op)) → Carries w (λ s. On s × (s.peer.queue ≡ q)) P (taking_until stop f q)
  unfolding taking_until
  taking_until_carries stop f x [] = λ r a h. x r a h.0
  taking_until_carries stop f x (m ∷ q) = carries_cond w (λ s. On s × (s.peer.queue ≡ m ∷ q)) P (λ s. accepted m s && not (stop m)) (λ s. taking_until stop f q (arriving m q s)) (arriving m q)
      (λ r a h. one_further m q (taking_until stop f q) (taking_until_carries stop f x q) r a (h.0, (and_parts _ _ h.1).0)) (λ r a h. arriving_carries m q r a h.0)

  -- the oldest operation, with the revisions before it
  pub taking_carries : Carries w On P taking
  taking_carries r a u = taking_until_carries is_operation (reported (event.Nothing ∷ [])) (carries_nothing w On P (reported (event.Nothing ∷ [])) (λ s _. refl) (λ s _. refl)) (scene w r).peer.queue r a (u, refl)

  -- all that is under way
  pub taking_all_carries : Carries w On P taking_all
  taking_all_carries r a u = taking_until_carries (λ m. false) (λ t. t) (carries_nothing w On P (λ t. t) (λ s _. refl) (λ s _. refl)) (scene w r).peer.queue r a (u, refl)
