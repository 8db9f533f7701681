-- What the actions that settle a room leave of the server and of the peer that they are done with.
use Rattle.std.proofs.Common.{◌≡◌, ℕ, zero, suc, ◌≤◌, Bool, true, false, cond, not, ◌&&◌, List, [], ◌∷◌, length, Some, None, Ok, Err, Option, Result, ⊎_elim, ◌==◌, ◌≢◌, sym, refl, ap, ap₂, ◌∙◌, subst, arith}
use Rattle.std.proofs.lemmas.Bool.{cond_both, cond-true, cond-false, eq-eqb, ne_eqb, eqb-true, and_parts, and_from, and_cases, false≢true, le-ltb, or_from}
use mathlib.Core.List.Memᴰ
use Rattle.operation.specs.declared.entry.Entry.{Entry}
use Rattle.operation.specs.declared.entry.Submission.{Submission}
use Rattle.operation.specs.Edits.{site}
use Rattle.operation.specs.Letters.{◌∈◌}
use Rattle.text.specs.Coded.{coded}
use Rattle.client.specs.declared.refusal.Refusal.{Refusal as ClientRefusal}
use Rattle.client.specs.Clients.{see_refusal, due, after_seeing}
use Rattle.server.specs.declared.refusal.Refusal.{Refusal as ServerRefusal}
use Rattle.server.specs.declared.refusal.Refusal.TheVariants.{NotConnected, BadRevision}
use Rattle.server.specs.Seats.{bounded}
use Rattle.server.specs.Sessions.{Seat, free, joined_at, heard, told, ServerState, arrival, taken}
use Rattle.server.specs.Servers.{with_seat, take_refusal, after_taking as left_by, answered, bad_revision}
use Rattle.network.specs.declared.message.Message.{Message}
use Rattle.network.specs.declared.message.Message.TheVariants as message
use Rattle.network.specs.OneRecord.{NoOperation}
use Rattle.network.proofs.Invariants.{Said}
use Rattle.network.proofs.Letters.{mem_parts, mem_of}
use Rattle.room.specs.declared.action.Action.TheVariants as action
use Rattle.room.specs.Scenes.{Op, PeerState, Scene, connected, joining, named, report, seen, next_entry, seeing_entry, seeing, takes_entry, seeing_up_to, seeing_all, server_after, server_refusal, accepted, is_accepted, refusal_of, arriving, taking_until, taking_all, acting}

-- A PEER, AND THE SERVER THAT IT HAS
abbrev pub IsOn : ServerState coded → PeerState → Type 0
IsOn v p = (p.joined && (v.seats p.site).connected) ≡ true

abbrev pub Fact : Type 1
Fact = ServerState coded → PeerState → Type 0

abbrev pub Both : Fact → Fact → Fact
Both Q T v p = Q v p × T v p

-- as long as it is connected, it has no operation under way
abbrev pub Quiet : Fact
Quiet v p = IsOn v p → NoOperation coded p.queue

-- and it has seen the whole history
abbrev pub UpToDate : Fact
UpToDate v p = IsOn v p → p.replica.revision ≡ length v.history

-- if it has joined it is connected
abbrev pub Present : Fact
Present v p = p.joined ≡ true → IsOn v p

-- THE OTHERS: the server is the same for everybody but the peer at site i
pub record Beside (i : ℕ) (v u : ServerState coded) : Type 0 where
  pub history : u.history ≡ v.history
  pub seats : (j : ℕ) → j ≢ i → u.seats j ≡ v.seats j

pub beside_same : (i : ℕ) (v : ServerState coded) → Beside i v v
beside_same i v = record { history = refl; seats = λ j n. refl }

pub beside_then : {i : ℕ} {v u t : ServerState coded} → Beside i v u → Beside i u t → Beside i v t
beside_then a b = record { history = b.history ∙ a.history; seats = λ j n. b.seats j n ∙ a.seats j n }

-- what holds of a peer whatever happens to the others
abbrev pub Own : Fact → Type 0
Own T = (i : ℕ) (v u : ServerState coded) → Beside i v u → (p : PeerState) → p.site ≢ i → T v p → T u p

still_on : (i : ℕ) (v u : ServerState coded) → Beside i v u → (p : PeerState) → p.site ≢ i → (p.joined && (u.seats p.site).connected) ≡ (p.joined && (v.seats p.site).connected)
still_on i v u b p far = ap (λ (s : Seat Op). p.joined && s.connected) (b.seats p.site far)

pub quiet_own : Own Quiet
quiet_own i v u b p far q o = q (sym (still_on i v u b p far) ∙ o)

pub seen_own : Own UpToDate
seen_own i v u b p far q o = q (sym (still_on i v u b p far) ∙ o) ∙ ap length (sym b.history)

pub present_own : Own Present
present_own i v u b p far q j = still_on i v u b p far ∙ q j

pub both_own : (Q T : Fact) → Own Q → Own T → Own (Both Q T)
both_own Q T f g i v u b p far x = (f i v u b p far x.0, g i v u b p far x.1)

-- REJOINING
pub rejoined_beside : (s : Scene) → Beside s.peer.site s.server (acting action.Rejoin s).server
rejoined_beside s = cond_both s.peer.joined (named s) s (λ t. Beside s.peer.site s.server t.server)
    (λ e. cond_both (connected s) s (joining s) (λ t. Beside s.peer.site s.server t.server) (λ e. beside_same _ _)
    (λ e. record { history = refl; seats = λ j n. cond-false (j == s.peer.site) _ _ (ne_eqb j _ n) ∙ cond-false (j == s.peer.site) _ _ (ne_eqb j _ n) }))
    (λ e. beside_same _ _)

-- a peer that a command names is connected then
joined_on : (s : Scene) → connected (joining s) ≡ true
joined_on s = ap (λ (t : Seat Op). t.connected) (cond-true (s.peer.site == s.peer.site) (joined_at (length s.server.history)) _ (eq-eqb s.peer.site _ refl))

pub named_on : (s : Scene) → connected (named s) ≡ true
named_on s = cond_both (connected s) s (joining s) (λ t. connected t ≡ true) (λ c. c) (λ c. joined_on s)

pub rejoined : (s : Scene) → Quiet s.server s.peer → Both Quiet Present (acting action.Rejoin s).server (acting action.Rejoin s).peer
rejoined s q = cond_both s.peer.joined (named s) s (λ t. Both Quiet Present t.server t.peer)
    (λ e. cond_both (connected s) s (joining s) (λ t. Both Quiet Present t.server t.peer) (λ c. (q, λ j. c)) (λ c. ((λ o m k. Memᴰ.not-nil k), λ j. joined_on s)))
    (λ e. (q, λ j. absurd (false≢true (sym e ∙ j))))

-- TAKING ALL that is under way
-- nobody is connected who was not
bounded_fewer : (s : Seat Op) → (bounded s).connected ≡ true → s.connected ≡ true
bounded_fewer s = cond_both _ s free (λ t. t.connected ≡ true → s.connected ≡ true) (λ e h. h) (λ e h. absurd (false≢true h))

told_fewer : (e : Entry Op) (s : Seat Op) → (told e s).connected ≡ true → s.connected ≡ true
told_fewer e s = cond_both s.connected _ s (λ t. t.connected ≡ true → s.connected ≡ true) (λ e h. e) (λ e h. h)

-- everybody who is connected to u was connected to v
abbrev pub Fewer : ServerState coded → ServerState coded → Type 0
Fewer v u = (j : ℕ) → (u.seats j).connected ≡ true → (v.seats j).connected ≡ true

freed_fewer : (i : ℕ) (v : ServerState coded) → Fewer v (with_seat i free v)
freed_fewer i v j = cond_both (j == i) free (v.seats j) (λ t. t.connected ≡ true → (v.seats j).connected ≡ true) (λ e h. absurd (false≢true h)) (λ e h. h)

taken_fewer : (i : ℕ) (m : Submission Op) (v : ServerState coded) → Fewer v (taken coded i m v)
taken_fewer i m v j = cond_both (j == i) _ _ (λ (t : Seat Op). t.connected ≡ true → (v.seats j).connected ≡ true)
    (λ e h. ap (λ k. (v.seats k).connected) (eqb-true j i e) ∙ h) (λ e h. told_fewer _ (v.seats j) h)

left_fewer : (o : Option ServerRefusal) (i : ℕ) (m : Submission Op) (v : ServerState coded) → Fewer v (left_by o i m v)
left_fewer None i m v j = cond_both (j == i) _ _ (λ (t : Seat Op). t.connected ≡ true → (v.seats j).connected ≡ true)
    (λ e h. taken_fewer i m v j h) (λ e h. taken_fewer i m v j (bounded_fewer _ h))
left_fewer (Some e) i m v j = freed_fewer i v j

abbrev heard_or_freed : ℕ → ℕ → ServerState coded → ServerState coded
heard_or_freed i r v = with_seat i (cond (bad_revision (length v.history) r (v.seats i)) free (heard r (v.seats i))) v

heard_fewer : (i r : ℕ) (v : ServerState coded) → Fewer v (heard_or_freed i r v)
heard_fewer i r v j = cond_both (j == i) _ (v.seats j) (λ (t : Seat Op). t.connected ≡ true → (v.seats j).connected ≡ true)
    (λ e. cond_both (bad_revision (length v.history) r (v.seats i)) free (heard r (v.seats i)) (λ t. t.connected ≡ true → (v.seats j).connected ≡ true)
    (λ b h. absurd (false≢true h)) (λ b h. ap (λ k. (v.seats k).connected) (eqb-true j i e) ∙ h))
    (λ e h. h)

after_fewer : (i : ℕ) (m : Message Op) (v : ServerState coded) → Fewer v (server_after i m v)
after_fewer i (message.Operation m) v = cond_both (v.seats (site m.op)).connected (left_by (take_refusal 65536 m (v.seats (site m.op)) v) (site m.op) m v) v (Fewer v)
    (λ e. left_fewer (take_refusal 65536 m (v.seats (site m.op)) v) (site m.op) m v) (λ e j h. h)
after_fewer i (message.Revision r) v = cond_both (v.seats i).connected (heard_or_freed i r v) v (Fewer v) (λ e. heard_fewer i r v) (λ e j h. h)

until_fewer : (stop : Message Op → Bool) (q : List (Message Op)) (s : Scene) → Fewer s.server (taking_until stop (λ t. t) q s).server
unfolding taking_until
until_fewer stop [] s = λ j h. h
until_fewer stop (m ∷ q) s = cond_both (accepted m s && not (stop m)) (taking_until stop (λ t. t) q (arriving m q s)) (arriving m q s) (λ t. Fewer s.server t.server)
    (λ e j h. after_fewer s.peer.site m s.server j (until_fewer stop q (arriving m q s) j h)) (λ e. after_fewer s.peer.site m s.server)

pub taken_all_fewer : (s : Scene) → Fewer s.server (acting action.TakeAll s).server
taken_all_fewer s = cond_both (connected s) (taking_all s) s (λ t. Fewer s.server t.server) (λ e. until_fewer _ s.peer.queue s) (λ e j h. h)

pub quiet_fewer : (v u : ServerState coded) → Fewer v u → (p : PeerState) → Quiet v p → Quiet u p
quiet_fewer v u f p q o = let h = and_parts _ _ o in q (and_from _ _ h.0 (f p.site h.1))

-- WHOSE THE OPERATIONS ARE that are under way
abbrev pub OfSite : ℕ → List (Message Op) → Type 0
OfSite i q = (m : Submission Op) → message.Operation m ∈ q → site m.op ≡ i

-- what is refused ends the connection over which it came
refused_operation : (o : Option ServerRefusal) (b : Bool) (x : Entry Op) (m : Submission Op) (v : ServerState coded) → (v.seats (site m.op)).connected ≡ b →
    is_accepted (refusal_of (cond b (answered o x) (Err NotConnected))) ≡ false → ((cond b (left_by o (site m.op) m v) v).seats (site m.op)).connected ≡ false
refused_operation o false x m v e a = e
refused_operation None true x m v e a = absurd (false≢true (sym a))
refused_operation (Some r) true x m v e a = ap (λ (t : Seat Op). t.connected) (cond-true (site m.op == site m.op) free (v.seats (site m.op)) (eq-eqb (site m.op) _ refl))

abbrev hearing : Bool → Bool → Result (Unit {0}) ServerRefusal
hearing on bad = cond on (cond bad (Err BadRevision) (Ok tt)) (Err NotConnected)

refused_revision : (bad b : Bool) (i r : ℕ) (v : ServerState coded) → (v.seats i).connected ≡ b →
    is_accepted (refusal_of (hearing b bad)) ≡ false → ((cond b (with_seat i (cond bad free (heard r (v.seats i))) v) v).seats i).connected ≡ false
refused_revision bad false i r v e a = e
refused_revision false true i r v e a = absurd (false≢true (sym a))
refused_revision true true i r v e a = ap (λ (t : Seat Op). t.connected) (cond-true (i == i) free (v.seats i) (eq-eqb i i refl))

refused_ends : (m : Message Op) (q : List (Message Op)) (s : Scene) → OfSite s.peer.site (m ∷ q) → accepted m s ≡ false → ((server_after s.peer.site m s.server).seats s.peer.site).connected ≡ false
refused_ends (message.Operation m) q s own a =
    let i = own m (Memᴰ.head refl) in
    let v = s.server in
    subst (λ j. ((server_after s.peer.site (message.Operation m) v).seats j).connected ≡ false) i
    (refused_operation (take_refusal 65536 m (v.seats (site m.op)) v) (v.seats (site m.op)).connected (record { place = length v.history; op = (arrival coded m (v.seats (site m.op))).one }) m v refl a)
refused_ends (message.Revision r) q s own a =
    refused_revision (bad_revision (length s.server.history) r (s.server.seats s.peer.site)) (s.server.seats s.peer.site).connected s.peer.site r s.server refl a

-- so if all that is under way is taken up to what is refused, nothing is under way, or the connection has ended
emptied : (q : List (Message Op)) (s : Scene) → s.peer.queue ≡ q → OfSite s.peer.site q → Quiet (taking_until (λ m. false) (λ t. t) q s).server (taking_until (λ m. false) (λ t. t) q s).peer
unfolding taking_until
emptied [] s e own = λ o m k. Memᴰ.not-nil (mem_of e k)
emptied (m ∷ q) s e own = cond_both (accepted m s && true) (taking_until (λ m. false) (λ t. t) q (arriving m q s)) (arriving m q s) (λ t. Quiet t.server t.peer)
    (λ a. emptied q (arriving m q s) refl (λ o k. own o (Memᴰ.tail k)))
    (λ a o. absurd (false≢true (sym (refused_ends m q s own (⊎_elim (λ z. z) (λ z. absurd (false≢true (sym z))) (and_cases _ _ a))) ∙ (and_parts _ _ o).1)))

pub taken_all_quiet : (s : Scene) → (IsOn s.server s.peer → OfSite s.peer.site s.peer.queue) → Quiet (acting action.TakeAll s).server (acting action.TakeAll s).peer
taken_all_quiet s own = cond_both (connected s) (taking_all s) s (λ t. Quiet t.server t.peer)
    (λ c. emptied s.peer.queue s refl (own c)) (λ c o. absurd (false≢true (sym c ∙ o)))

-- IF ONLY REVISIONS ARE UNDER WAY, each no lower than the one before and none above the history, all are heard, and nobody's connection ends
high_enough : (q : List (Message Op)) (low high : ℕ) → Said coded low q high → low ≤ high
unfolding Said
high_enough [] low high s = s
high_enough (m ∷ q) low high s = let h = s.0 in let k = high_enough q _ high s.1 in omega arith

good_revision : (n r : ℕ) (s : Seat Op) → s.said ≤ r → r ≤ n → bad_revision n r s ≡ false
good_revision n r s h k = or_from _ _ (le-ltb n r k) (le-ltb r s.said h)

module _ (v : ServerState coded) (i r : ℕ) (on : (v.seats i).connected ≡ true) (good : bad_revision (length v.history) r (v.seats i) ≡ false) where
  heard_now : server_after i (message.Revision r) v ≡ with_seat i (heard r (v.seats i)) v
  heard_now = ap₂ (λ b c. cond b (with_seat i (cond c free (heard r (v.seats i))) v) v) on good

  heard_accepted : is_accepted (server_refusal i (message.Revision r) v) ≡ true
  heard_accepted = ap₂ (λ b c. is_accepted (refusal_of (hearing b c))) on good

-- what is left when all has been heard
pub record AllHeard (s t : Scene) : Type 0 where
  pub on : IsOn t.server t.peer
  pub queue : NoOperation coded t.peer.queue
  pub beside : Beside s.peer.site s.server t.server

all_heard : (q : List (Message Op)) (s : Scene) (h : ℕ) → s.peer.queue ≡ q → NoOperation coded q → IsOn s.server s.peer → Said coded (s.server.seats s.peer.site).said q h → h ≤ length s.server.history →
    AllHeard s (taking_until (λ m. false) (λ t. t) q s)
unfolding taking_until Said
all_heard [] s h e none on said within = record { on = on; queue = λ m k. none m (mem_of e k); beside = beside_same _ _ }
all_heard (message.Operation m ∷ q) s h e none on said within = absurd (none m (Memᴰ.head refl))
all_heard (message.Revision r ∷ q) s h e none on said within =
    let i = s.peer.site in
    let o = and_parts s.peer.joined (s.server.seats i).connected on in
    let k = high_enough q r h said.1 in
    let short : r ≤ length s.server.history = omega (arith, k, within) in
    let good = good_revision (length s.server.history) r (s.server.seats i) said.0 short in
    let now = heard_now s.server i r o.1 good in
    let seat : (server_after i (message.Revision r) s.server).seats i ≡ heard r (s.server.seats i) =
    ap (λ (v : ServerState coded). v.seats i) now ∙ cond-true (i == i) (heard r (s.server.seats i)) (s.server.seats i) (eq-eqb i i refl) in
    let rest = all_heard q (arriving (message.Revision r) q s) h refl (λ m k. none m (Memᴰ.tail k)) (and_from _ _ o.0 (ap (λ (t : Seat Op). t.connected) seat ∙ o.1))
    (subst (λ (t : Seat Op). Said coded t.said q h) (sym seat) said.1) (subst (λ (v : ServerState coded). h ≤ length v.history) (sym now) within) in
    subst (AllHeard s) (sym (cond-true (accepted (message.Revision r) s && true) _ _ (and_from _ _ (heard_accepted s.server i r o.1 good) refl)))
    (record {
      on = rest.on;
      queue = rest.queue;
      beside = beside_then (subst (Beside i s.server) (sym now)
          (record { history = refl; seats = λ j n. cond-false (j == i) _ _ (ne_eqb j i n) })) rest.beside;
    })

pub taken_all_heard : (s : Scene) (h : ℕ) → IsOn s.server s.peer → NoOperation coded s.peer.queue → Said coded (s.server.seats s.peer.site).said s.peer.queue h → h ≤ length s.server.history →
    AllHeard s (acting action.TakeAll s)
taken_all_heard s h on none said within = subst (AllHeard s) (sym (cond-true (connected s) (taking_all s) s on)) (all_heard s.peer.queue s h refl none on said within)

-- nobody takes anything from a peer with no connection
pub taken_none : (s : Scene) → connected s ≡ false → acting action.TakeAll s ≡ s
taken_none s off = cond-false (connected s) (taking_all s) s off

-- SEEING leaves the server, and sends nothing but revisions
pub record Sees (s t : Scene) : Type 0 where
  pub server : t.server ≡ s.server
  pub joined : t.peer.joined ≡ s.peer.joined
  pub site : t.peer.site ≡ s.peer.site
  pub queue : NoOperation coded s.peer.queue → NoOperation coded t.peer.queue

sees_same : (s : Scene) → Sees s s
sees_same s = record { server = refl; joined = refl; site = refl; queue = λ n. n }

sees_then : {s t u : Scene} → Sees s t → Sees t u → Sees s u
sees_then a b = record { server = b.server ∙ a.server; joined = b.joined ∙ a.joined; site = b.site ∙ a.site; queue = λ n. b.queue (a.queue n) }

no_report : (o : Option ℕ) (m : Submission Op) → message.Operation m ∈ report o → ⊥
no_report None m k = Memᴰ.not-nil k
no_report (Some r) m k = ⊎_elim (λ e. absurd (cc)) (λ n. Memᴰ.not-nil n) (Memᴰ.cases_cons k)

sees_entry : (r : Option ClientRefusal) (e : Entry Op) (s : Scene) → Sees s (seen r e s)
sees_entry None e s = record {
  server = refl;
  joined = refl;
  site = refl;
  queue = λ n m k. ⊎_elim (n m) (no_report (due (after_seeing 65792 s.peer.site e s.peer.replica).revision) m) (mem_parts s.peer.queue k);
}
sees_entry (Some r) e s = record { server = refl; joined = refl; site = refl; queue = λ n. n }

pub sees_next : (o : Option (Entry Op)) (s : Scene) → Sees s (seeing_entry o s)
sees_next None s = record { server = refl; joined = refl; site = refl; queue = λ n. n }
sees_next (Some e) s = sees_entry (see_refusal 65792 s.peer.site e s.peer.replica) e s

sees_up_to : (n : ℕ) (s : Scene) → Sees s (seeing_up_to n s)
unfolding seeing_up_to
sees_up_to zero s = sees_same s
sees_up_to (suc n) s = cond_both (takes_entry (next_entry s) s) (seeing_up_to n (seeing s)) (seeing s) (Sees s)
    (λ e. sees_then (sees_next (next_entry s) s) (sees_up_to n (seeing s))) (λ e. sees_next (next_entry s) s)

pub sees_all : (s : Scene) → Sees s (acting action.SeeAll s)
sees_all s = cond_both (connected s) (seeing_all s) s (Sees s) (λ e. sees_up_to _ s) (λ e. sees_same s)

module _ (s t : Scene) (x : Sees s t) where
  pub on_seen : (t.peer.joined && (t.server.seats t.peer.site).connected) ≡ (s.peer.joined && (s.server.seats s.peer.site).connected)
  on_seen = ap₂ (λ j (c : Seat Op). j && c.connected) x.joined (ap₂ (λ (v : ServerState coded) i. v.seats i) x.server x.site)

  pub beside_seen : Beside s.peer.site s.server t.server
  beside_seen = subst (Beside s.peer.site s.server) (sym x.server) (beside_same _ _)

  pub quiet_seen : Quiet s.server s.peer → Quiet t.server t.peer
  quiet_seen q o = x.queue (q (sym on_seen ∙ o))

  pub present_seen : Present s.server s.peer → Present t.server t.peer
  present_seen p j = on_seen ∙ p (sym x.joined ∙ j)
