-- What each command leaves of a room that is reached: it is reached again, by steps that the command makes. And after settling all that have joined agree.
use Rattle.std.proofs.Common.{◌≡◌, ℕ, zero, suc, ◌<◌, ◌≤◌, Bool, true, false, cond, ◌&&◌, not, List, [], ◌∷◌, ◌++◌, map, length, Some, ltb, is_none, inr, ⊎_elim, ◌≢◌, sym, refl, ap, ◌∙◌, subst, subst₂, arith}
use Rattle.std.specs.Prelude.{slice_index_or}
use Rattle.std.proofs.lemmas.Bool.{cases_eq, cases_lt, cond_both, cond-true, cond-false, or_parts, not-false, lt-ltb, le-ltb, false≢true}
use Rattle.std.proofs.lemmas.List.{get_or_past}
use mathlib.Core.List.Memᴰ
use Rattle.operation.specs.declared.operation.Operation.TheVariants.{Noop}
use Rattle.operation.specs.declared.entry.Entry.{Entry}
use Rattle.operation.specs.declared.entry.Submission.{Submission}
use Rattle.operation.specs.Edits.{site}
use Rattle.operation.specs.Letters.{◌∈◌}
use Rattle.text.specs.Coded.{coded}
use Rattle.client.specs.Replicas.{Replica}
use Rattle.server.specs.Sessions.{Seat, ServerState}
use Rattle.network.specs.declared.message.Message.{Message}
use Rattle.network.specs.declared.message.Message.TheVariants as message
use Rattle.network.specs.Runs.{Step, performs, reports, takes, hears, sees, joins, ends, crashes}
use Rattle.network.specs.Written.{written, Named}
use Rattle.network.proofs.Invariants.{Said, Alive}
use Rattle.network.proofs.Letters.{mem_of}
use Rattle.network.proofs.Nets.{recorded_length}
use Rattle.network.proofs.Queued.{queued}
use Rattle.network.proofs.Writing.{written_laws}
use Rattle.room.specs.declared.action.Action.{Action}
use Rattle.room.specs.declared.action.Action.TheVariants as action
use Rattle.room.specs.declared.command.Command.{Command}
use Rattle.room.specs.declared.command.Command.TheVariants as command
use Rattle.room.specs.Scenes.{named, taking, taking_all, Op, PeerState, Scene, RoomState, scene, with, with_each, waiting, connected, next_entry, takes_entry, seeing, seeing_entry, seeing_all, acting, round, ended, any_ended, settling, playing}
use Rattle.room.specs.Reached.{NamedNet, NamedOp, text_of, op_of, submission_of, message_of, Reached, Onward, IsEdit, Asked, Settles, Keeps, Settled, Agrees}
use Rattle.room.proofs.Naming.{site_of}
use Rattle.room.proofs.Seeings.{unseen, see_some, see_none, nearer}
use Rattle.room.proofs.Paths.{carries_then, carries_cond, carries_nothing, Steps, Carries, onward_then, onward_weaker, onward_same, scene_with, scene_other, site_now, enough_peers}
use Rattle.room.proofs.ShownJoins.{MayJoin, naming_peer, good_net, same_length}
use Rattle.room.proofs.Effects.{named_on, Quiet, UpToDate, Present, Beside, beside_same, Fact, Both, Own, both_own, quiet_own, seen_own, present_own, rejoined_beside, rejoined, taken_all_fewer, quiet_fewer, OfSite, taken_all_quiet, AllHeard, taken_all_heard, taken_none, sees_all, sees_next, on_seen, beside_seen, quiet_seen, present_seen}
use Rattle.room.proofs.ShownActs.{acts_edit, acts_join, acts_rejoin, asked_keeps}
use Rattle.room.proofs.ShownCrash.{crash_carried}
use Rattle.room.proofs.ShownSees.{now, plays, same_revision, queue_now, its_site, see_never_refused, On, still_on, seeing_carries, seeing_all_carries}
use Rattle.room.proofs.ShownTakes.{taking_carries, taking_all_carries}

-- EACH ACTION keeps the room reached
module _ (w : ℕ) (below : w < 4) where
  -- something that is done with a connected peer is done with one that was named, or only if it is connected
  when_named : (P : Steps) → MayJoin w P → (f : Scene → Scene) → Carries w On P f → Carries w (λ s. Unit {0}) P (λ s. f (named s))
  when_named P allowed f x = carries_then w below (λ s. Unit {0}) On P named f (naming_peer w below P allowed) (λ s q. named_on s) x

  if_connected : (P : Steps) (f : Scene → Scene) → Carries w On P f → Carries w (λ s. Unit {0}) P (λ s. cond (connected s) (f s) s)
  if_connected P f x = carries_cond w (λ s. Unit {0}) P connected f (λ s. s) (λ r a q. x r a q.1)
      (carries_nothing w (λ s. Unit {0} × (connected s ≡ false)) P (λ s. s) (λ s q. refl) (λ s q. refl))

  pub acts : (a : Action) → Carries w (λ s. Unit {0}) (Asked w a) (acting a)
  acts (action.Edit e) = acts_edit w below e
  acts action.Take = when_named (Asked w action.Take) (λ n u v. refl) taking
      (taking_carries w below (Asked w action.Take) (λ n c m rest u e q. (q, refl)) (λ n c r rest u e q. (q, refl)) (λ n c u. inr refl))
  acts action.See = when_named (Asked w action.See) (λ n u v. refl) seeing
      (seeing_carries w below (Asked w action.See) (λ n c e f g u q l s k. (k, refl)) (λ n c u k. (k, refl)))
  acts action.Join = acts_join w below
  acts action.Rejoin = acts_rejoin w below
  acts action.TakeAll = if_connected (Asked w action.TakeAll) taking_all
      (taking_all_carries w below (Asked w action.TakeAll) (λ n c m rest u e q. (q, refl)) (λ n c r rest u e q. (q, refl)) (λ n c u. inr refl))
  acts action.SeeAll = if_connected (Asked w action.SeeAll) seeing_all
      (seeing_all_carries w below (Asked w action.SeeAll) (λ n c e f g u q l s k. (k, refl)) (λ n c u k. (k, refl)))

-- what settling asks for
abbrev Settling : Action → Type 0
Settling a = (w : ℕ) (e : NamedOp) → IsEdit w a e → ⊥

settles : (w : ℕ) (a : Action) → Settling a → (n m : NamedNet) (s : Step (written Named) n m) → Asked w a n m s → Settles n m s
settles w a h n _ (performs c o u s f x y) q = h w o q.1
settles w a h n _ (reports c u) q = tt
settles w a h n _ (takes c m rest u e) q = tt
settles w a h n _ (hears c r rest u e) q = tt
settles w a h n _ (sees c e f g u l m s) q = tt
settles w a h n _ (joins p i u v) q = tt
settles w a h n _ (ends c u) q = tt
settles w a h n _ crashes q = q

-- ONE PEER AFTER ANOTHER
abbrev Each : Fact → RoomState → Type 0
Each T r = (v : ℕ) → v < 4 → T r.server (scene v r).peer

module _ (a : Action) (settling_it : Settling a) where
  each_onward : (n : ℕ) → n ≤ 4 → (r : RoomState) (b : Reached r) → Onward Settles b.net (with_each n (acting a) r)
  unfolding with_each
  each_onward zero h r b = onward_same Settles b refl refl
  each_onward (suc n) h r b =
      let o = each_onward n (omega arith) r b in
      onward_then Settles o (onward_weaker (Asked n a) Settles (settles n a settling_it) (acts n (omega arith) a (with_each n (acting a) r) o.reached tt))

  -- Q: what holds of each peer at first; T: of each with which it has been done
  module _ (Q T : Fact) (own : (w : ℕ) → w < 4 → (r : RoomState) → Reached r → Q r.server (scene w r).peer → T (acting a (scene w r)).server (acting a (scene w r)).peer)
      (before : (w : ℕ) → w < 4 → (r : RoomState) → Reached r → Q r.server (scene w r).peer → (p : PeerState) → p.site ≢ w → Q r.server p → Q (acting a (scene w r)).server p)
      (after : (w : ℕ) → w < 4 → (r : RoomState) → Reached r → Q r.server (scene w r).peer → (p : PeerState) → p.site ≢ w → T r.server p → T (acting a (scene w r)).server p) where
    so_far : (n : ℕ) → n ≤ 4 → (r : RoomState) → Reached r → Each Q r → (v : ℕ) → v < 4 →
        (v < n → T (with_each n (acting a) r).server (scene v (with_each n (acting a) r)).peer) × (n ≤ v → Q (with_each n (acting a) r).server (scene v (with_each n (acting a) r)).peer)
    unfolding with_each
    so_far zero h r b q v k = ((λ l. absurd (omega arith)), λ l. q v k)
    so_far (suc n) h r b q v k =
        let t : RoomState = with_each n (acting a) r in
        let u = (each_onward n (omega arith) r b).reached in
        let i = so_far n (omega arith) r b q in
        let fresh : Q t.server (scene n t).peer = (i n (omega arith)).1 (omega arith) in
        let here : n < length t.peers = enough_peers u n (omega arith) in
        ⊎_elim
        (λ e. (
          (λ l. subst (λ w. T (with n (acting a) t).server (scene w (with n (acting a) t)).peer) (sym e)
              (subst (λ (s : Scene). T s.server s.peer) (sym (scene_with n (acting a) t here)) (own n (omega arith) t u fresh))),
          λ l. absurd (omega arith),
        ))
        (λ ne.
        let far : (scene v t).peer.site ≢ n = λ e. ne (sym (site_now u.shows v k) ∙ e) in
        let same = sym (scene_other n v (acting a) t ne) in (
          (λ l. subst (T (with n (acting a) t).server) same (after n (omega arith) t u fresh (scene v t).peer far ((i v k).0 (omega arith)))),
          λ l. subst (Q (with n (acting a) t).server) same (before n (omega arith) t u fresh (scene v t).peer far ((i v k).1 (omega arith))),
        ))
        (cases_eq v n)

    each_all : (r : RoomState) → Reached r → Each Q r → Each T (with_each 4 (acting a) r)
    each_all r b q v k = (so_far 4 (omega arith) r b q v k).0 k

  -- where it changes nothing for the others
  module _ (Q T : Fact) (f : Own Q) (g : Own T) (own : (w : ℕ) → w < 4 → (r : RoomState) → Reached r → Q r.server (scene w r).peer → T (acting a (scene w r)).server (acting a (scene w r)).peer)
      (beside : (w : ℕ) → w < 4 → (r : RoomState) → Reached r → Q r.server (scene w r).peer → Beside w r.server (acting a (scene w r)).server) where
    each_beside : (r : RoomState) → Reached r → Each Q r → Each T (with_each 4 (acting a) r)
    each_beside = each_all Q T own (λ w h r b q p far x. f w _ _ (beside w h r b q) p far x) (λ w h r b q p far x. g w _ _ (beside w h r b q) p far x)

-- WHAT A CONNECTED PEER of a reached room has under way, and has seen
-- where x stands in a list
split_at : {X : Type 0} {x : X} {xs : List X} → x ∈ xs → (pre : List X) × (post : List X) × (xs ≡ pre ++ x ∷ post)
split_at (Memᴰ.head {x = y} {xs = ys} e) = ([], ys, ap (λ z. z ∷ ys) (sym e))
split_at (Memᴰ.tail {x = y} {xs = ys} m) = let r = split_at m in (y ∷ r.0, r.1, ap (◌∷◌ y) r.2)

said_of : (q : List (Message NamedOp)) (low high : ℕ) → Said (written Named) low q high → Said coded low (map message_of q) high
unfolding Said
said_of [] low high s = s
said_of (message.Operation m ∷ q) low high s = (s.0, said_of q m.revision high s.1)
said_of (message.Revision r ∷ q) low high s = (s.0, said_of q r high s.1)

-- an operation of a queue of the net, as the code has it
of_its_site : (i : ℕ) (q : List (Message NamedOp)) → ((m : Submission NamedOp) → message.Operation m ∈ q → site m.op ≡ i) →
    (x : Message NamedOp) → x ∈ q → (m : Submission Op) → message_of x ≡ message.Operation m → site m.op ≡ i
of_its_site i q own (message.Operation o) k m e =
    let same : submission_of o ≡ m = cc in
    ap (λ (z : Submission Op). site z.op) (sym same) ∙ site_of o.op ∙ own o k
of_its_site i q own (message.Revision r) k m e = absurd (cc)

module _ {r : RoomState} (a : Reached r) (w : ℕ) (below : w < 4) (on : connected (scene w r) ≡ true) where
  abbrev it : ℕ
  it = a.connection w

  its_life : Alive (written Named) it a.net.rows (a.net.server.seats it) (a.net.lives it)
  its_life = let g = good_net a in g.alive it (g.seated.given it (now a w below on).1)

  its_operations : OfSite (scene w r).peer.site (scene w r).peer.queue
  its_operations m k =
      let x = Memᴰ.of_map message_of (a.net.lives it).queue (mem_of (queue_now a w below on) k) in
      of_its_site (scene w r).peer.site (a.net.lives it).queue
      (λ o i. let p = split_at i in (queued (written Named) (written_laws Named) a.net a.reachable it (now a w below on).1 p.0 p.1 o p.2).site ∙ its_site a w below on)
      x.0 x.1 m x.2

  its_said : Said coded (r.server.seats (scene w r).peer.site).said (scene w r).peer.queue (scene w r).peer.replica.revision
  its_said =
      let said : (r.server.seats (scene w r).peer.site).said ≡ (a.net.server.seats it).said =
      ap (λ i. (r.server.seats i).said) (site_now a.shows w below) ∙ ap (λ (t : Seat Op). t.said) (plays a w below on).its_seat in
      subst (λ n. Said coded n (scene w r).peer.queue (scene w r).peer.replica.revision) (sym said)
      (subst₂ (λ q n. Said coded (a.net.server.seats it).said q n) (sym (queue_now a w below on)) (sym (same_revision a w below on))
      (said_of (a.net.lives it).queue _ _ (its_life.grid (now a w below on).1).said))

  all_rows : length r.server.history ≡ length a.net.rows
  all_rows = same_length a.shows ∙ recorded_length (written Named) (written_laws Named) a.net (good_net a).recorded

  within_history : (scene w r).peer.replica.revision ≤ length r.server.history
  within_history = omega (arith, same_revision a w below on, all_rows, its_life.copy.seen, its_life.copy.within)

-- SEEING: nothing is refused, so a connected peer comes to the end of the history
module _ {r : RoomState} (a : Reached r) (w : ℕ) (below : w < 4) (on : connected (scene w r) ≡ true) where
  abbrev s : Scene
  s = scene w r

  -- nothing is left
  none_left : length s.server.history ≤ s.peer.replica.revision → (seeing_all s).peer.replica.revision ≡ length r.server.history
  none_left h = ap (λ (t : Scene). t.peer.replica.revision) (see_none s (cond-false (ltb s.peer.replica.revision (length s.server.history)) _ _ (le-ltb s.peer.replica.revision _ h)))
      ∙ (let k = within_history a w below on in omega arith)

  -- or an entry is next
  abbrev entry : Entry Op
  entry = record { place = s.peer.replica.revision; op = slice_index_or s.server.history s.peer.replica.revision (Noop 0) }

  module _ (less : s.peer.replica.revision < length s.server.history) where
    is_next : next_entry s ≡ Some entry
    is_next = cond-true (ltb s.peer.replica.revision (length s.server.history)) _ _ (lt-ltb _ _ less)

    is_taken : takes_entry (Some entry) s ≡ true
    is_taken = ap is_none (see_never_refused a w below on entry is_next)

    step_on : seeing s ≡ seeing_entry (Some entry) s
    step_on = ap (λ o. seeing_entry o s) is_next

    rest_to_see : seeing_all s ≡ seeing_all (scene w (with w seeing r))
    rest_to_see = see_some s entry is_next ∙ cond-true (takes_entry (Some entry) s) _ _ is_taken ∙ ap seeing_all (sym step_on ∙ sym (scene_with w seeing r (enough_peers a w below)))

    less_to_see : unseen s ≡ suc (unseen (scene w (with w seeing r)))
    less_to_see = nearer s entry is_next is_taken ∙ ap (λ t. suc (unseen t)) (sym step_on ∙ sym (scene_with w seeing r (enough_peers a w below)))

    on_then : connected (scene w (with w seeing r)) ≡ true
    on_then = ap connected (scene_with w seeing r (enough_peers a w below)) ∙ still_on s on

    reached_then : Reached (with w seeing r)
    reached_then = (seeing_carries w below Settles (λ n c e f g u q l h k. tt) (λ n c u k. tt) r a on).reached

to_the_end : (n : ℕ) (w : ℕ) → w < 4 → (r : RoomState) → Reached r → connected (scene w r) ≡ true → unseen (scene w r) ≡ n →
    (seeing_all (scene w r)).peer.replica.revision ≡ length r.server.history
to_the_end zero w below r a on k = none_left a w below on (omega arith)
to_the_end (suc n) w below r a on k =
    let less : (scene w r).peer.replica.revision < length r.server.history = omega arith in
    let m = less_to_see a w below on less in
    ap (λ (t : Scene). t.peer.replica.revision) (rest_to_see a w below on less)
    ∙ to_the_end n w below (with w seeing r) (reached_then a w below on less) (on_then a w below on less) (omega arith)
    ∙ ap (λ (v : ServerState coded). length v.history) (sees_next (next_entry (scene w r)) (scene w r)).server

seen_to_end : (w : ℕ) → w < 4 → (r : RoomState) → Reached r → UpToDate (acting action.SeeAll (scene w r)).server (acting action.SeeAll (scene w r)).peer
seen_to_end w below r a o =
    let x = sees_all (scene w r) in
    let on = sym (on_seen (scene w r) (acting action.SeeAll (scene w r)) x) ∙ o in
    ap (λ (t : Scene). t.peer.replica.revision) (cond-true (connected (scene w r)) (seeing_all (scene w r)) (scene w r) on)
    ∙ to_the_end (unseen (scene w r)) w below r a on refl ∙ ap (λ (v : ServerState coded). length v.history) (sym x.server)

-- TAKING, where only revisions are under way
module _ (w : ℕ) (below : w < 4) (r : RoomState) (a : Reached r) (quiet : Quiet r.server (scene w r).peer) where
  heard_by : connected (scene w r) ≡ true → AllHeard (scene w r) (acting action.TakeAll (scene w r))
  heard_by on = taken_all_heard (scene w r) (scene w r).peer.replica.revision on (quiet on) (its_said a w below on) (within_history a w below on)

  heard_beside : Beside w r.server (acting action.TakeAll (scene w r)).server
  heard_beside = by (connected (scene w r)) refl
    where
      by : (b : Bool) → connected (scene w r) ≡ b → Beside w r.server (acting action.TakeAll (scene w r)).server
      by true on = subst (λ i. Beside i r.server (acting action.TakeAll (scene w r)).server) (site_now a.shows w below) (heard_by on).beside
      by false off = subst (λ (t : Scene). Beside w r.server t.server) (sym (taken_none (scene w r) off)) (beside_same w r.server)

  heard_all : Present r.server (scene w r).peer → Both Quiet Present (acting action.TakeAll (scene w r)).server (acting action.TakeAll (scene w r)).peer
  heard_all present = by (connected (scene w r)) refl
    where
      by : (b : Bool) → connected (scene w r) ≡ b → Both Quiet Present (acting action.TakeAll (scene w r)).server (acting action.TakeAll (scene w r)).peer
      by true on = let h = heard_by on in ((λ o. h.queue), λ j. h.on)
      by false off = subst (λ (t : Scene). Both Quiet Present t.server t.peer) (sym (taken_none (scene w r) off)) (quiet, present)

-- THE OTHERS, while a peer joins anew or sees
joined_others : (w : ℕ) → w < 4 → (r : RoomState) → Reached r → Beside w r.server (acting action.Rejoin (scene w r)).server
joined_others w below r a = subst (λ i. Beside i r.server (acting action.Rejoin (scene w r)).server) (site_now a.shows w below) (rejoined_beside (scene w r))

seen_others : (w : ℕ) → w < 4 → (r : RoomState) → Reached r → Beside w r.server (acting action.SeeAll (scene w r)).server
seen_others w below r a = subst (λ i. Beside i r.server (acting action.SeeAll (scene w r)).server) (site_now a.shows w below) (beside_seen _ _ (sees_all (scene w r)))

-- A ROUND
module _ (r : RoomState) (a : Reached r) where
  abbrev joined_all : RoomState
  joined_all = with_each 4 (acting action.Rejoin) r

  abbrev taken_all : RoomState
  taken_all = with_each 4 (acting action.TakeAll) joined_all

  after_joins : Onward Settles a.net joined_all
  after_joins = each_onward action.Rejoin (λ w e h. h) 4 (omega arith) r a

  after_takes : Onward Settles a.net taken_all
  after_takes = onward_then Settles after_joins (each_onward action.TakeAll (λ w e h. h) 4 (omega arith) joined_all after_joins.reached)

  round_onward : Onward Settles a.net (round r)
  round_onward = onward_then Settles after_takes (each_onward action.SeeAll (λ w e h. h) 4 (omega arith) taken_all after_takes.reached)

  -- whoever is connected then has no operation under way and has seen all
  round_quiet : Each (Both Quiet UpToDate) (round r)
  round_quiet =
      let taken = each_all action.TakeAll (λ w e h. h) (λ v p. Unit {0}) Quiet (λ w h t b q. taken_all_quiet (scene w t) (its_operations b w h))
      (λ w h t b q p far u. tt) (λ w h t b q p far. quiet_fewer t.server (acting action.TakeAll (scene w t)).server (taken_all_fewer (scene w t)) p)
      joined_all after_joins.reached (λ v h. tt) in
      each_beside action.SeeAll (λ w e h. h) Quiet (Both Quiet UpToDate) quiet_own (both_own Quiet UpToDate quiet_own seen_own)
      (λ w h t b q. (quiet_seen _ _ (sees_all (scene w t)) q, seen_to_end w h t b)) (λ w h t b q. seen_others w h t b) taken_all after_takes.reached taken

  -- if nobody had an operation under way, nobody's connection ends in it
  round_present : Each Quiet r → Each Present (round r)
  round_present quiet =
      let own = both_own Quiet Present quiet_own present_own in
      let here = each_beside action.Rejoin (λ w e h. h) Quiet (Both Quiet Present) quiet_own own (λ w h t b q. rejoined (scene w t) q) (λ w h t b q. joined_others w h t b) r a quiet in
      let heard = each_beside action.TakeAll (λ w e h. h) (Both Quiet Present) (Both Quiet Present) own own (λ w h t b q. heard_all w h t b q.0 q.1) (λ w h t b q. heard_beside w h t b q.0)
      joined_all after_joins.reached here in
      each_beside action.SeeAll (λ w e h. h) Present Present present_own present_own (λ w h t b q. present_seen _ _ (sees_all (scene w t)) q) (λ w h t b q. seen_others w h t b)
      taken_all after_takes.reached (λ v h. (heard v h).1)

-- nobody has ended
not_ended : (b c : Bool) → (b && not (b && c)) ≡ false → b ≡ true → (b && c) ≡ true
not_ended true c e j = not-false c e
not_ended false c e j = j

none_ended : (n : ℕ) (r : RoomState) → any_ended n r ≡ false → (v : ℕ) → v < n → Present r.server (scene v r).peer
unfolding any_ended
none_ended zero r e v h = absurd (omega arith)
none_ended (suc n) r e v h =
    let p = or_parts (any_ended n r) (ended (scene n r)) e in
    ⊎_elim (λ m. subst (λ w. Present r.server (scene w r).peer) (sym m) (not_ended _ _ p.1)) (λ ne. none_ended n r p.0 v (omega arith)) (cases_eq v n)

-- SETTLING
-- whoever has joined is connected, has nothing under way, and has seen all: so it agrees
settled : (r : RoomState) → Reached r → Each (Both Quiet UpToDate) r → Each Present r → (w : ℕ) → (scene w r).peer.joined ≡ true → Settled r w
settled r a done present w j = ⊎_elim among beyond (cases_lt w 4)
  where
    beyond : 4 ≤ w → Settled r w
    beyond h =
        let none : (scene w r).peer ≡ waiting w = get_or_past r.peers w (waiting w) (let e = a.shows.four in omega arith) in
        absurd (false≢true (sym (ap (λ (p : PeerState). p.joined) none) ∙ j))

    among : w < 4 → Settled r w
    among h =
        let on = present w h j in
        let q = (done w h).0 on in
        let x = plays a w h on in
        let all = a.promised.convergence a.net a.reachable (a.connection w) (now a w h on).1
        (λ m k. q (submission_of m) (mem_of (sym (queue_now a w h on)) (Memᴰ.map message_of k)))
        (sym (same_revision a w h on) ∙ (done w h).1 on ∙ same_length a.shows) in
        record {
          connected = on;
          text = ap (λ (p : Replica coded). p.text) x.replica ∙ ap text_of all.0 ∙ sym a.shows.text;
          pending = ap (λ (p : Replica coded). p.pending) x.replica ∙ ap (map op_of) all.1;
        }

settling_onward : (r : RoomState) (a : Reached r) → Onward Settles a.net (settling r)
settling_onward r a = let o = round_onward r a in
    cond_both _ (round (round r)) (round r) (Onward Settles a.net) (λ e. onward_then Settles o (round_onward (round r) o.reached)) (λ e. o)

pub agrees : (r : RoomState) → Agrees r (settling r)
agrees r a = by (any_ended 4 (round r)) refl
  where
    once : Reached (round r)
    once = (round_onward r a).reached

    by : (b : Bool) → any_ended 4 (round r) ≡ b → (w : ℕ) → (scene w (cond b (round (round r)) (round r))).peer.joined ≡ true → Settled (cond b (round (round r)) (round r)) w
    by true e = settled (round (round r)) (round_onward (round r) once).reached (round_quiet (round r) once) (round_present (round r) once (λ v h. (round_quiet r a v h).0))
    by false e = settled (round r) once (round_quiet r a) (none_ended 4 (round r) e)

-- EACH COMMAND
pub keeps : (c : Command) (r : RoomState) → Keeps c r (playing c r)
keeps (command.Ask w a) r b = asked_keeps a (λ v h. acts v h a) w r b
keeps command.Crash r b = crash_carried r b
keeps command.Settle r b = settling_onward r b

-- the same of a state that is known by an equation
pub keeps_so : (c : Command) (r s : RoomState) → s ≡ playing c r → Keeps c r s
keeps_so c r s e = subst (Keeps c r) (sym e) (keeps c r)

pub agrees_so : (r s : RoomState) → s ≡ settling r → Agrees r s
agrees_so r s e = subst (Agrees r) (sym e) (agrees r)
