-- Each round brings 16 messages more across, or all.
use Rattle.std.proofs.Common.{◌≡◌, ℕ, zero, suc, ◌+◌, ◌-◌, ◌*◌, ◌<◌, ◌≤◌, ◌==◌, List, [], ◌∷◌, ◌++◌, length, take, drop, Some, Ok, Err, Result, slice_get, refl, sym, ap, ◌∙◌, subst, ⊎_elim, arith, le_trans}
use Rattle.std.proofs.lemmas.Bool.{cond_both, eqb-false, cases_lt}
use Rattle.std.proofs.lemmas.Bool.Decides.{nat_tests}
use Rattle.std.proofs.lemmas.List.{length-append, take-append-drop, take-take, take_all}
use Rattle.link.specs.declared.datagram.Packet.{Packet}
use Rattle.link.specs.declared.datagram.Acknowledgement.{Acknowledgement}
use Rattle.link.specs.declared.refusal.Refusal.{Refusal}
use Rattle.link.specs.declared.receiver.Receiver.{Receiver}
use Rattle.link.specs.Numbering.{Sending, acknowledged_to, last_sent, under_way, taken, acknowledgement_of}
use Rattle.link.specs.Deliveries.{Line, Event, Tick, Packet_comes, Reply_comes, Others, packets_of, decided, packet_came, reply_came, if_some, happens, run, all_come, ticked, replied, round, after_rounds, Across, Lasting}
use Rattle.link.proofs.Grown.{length-grows, take-grows, get-grows, get-append, get_there, get-last}
use Rattle.link.proofs.Packets.{packet, get-packets}
use Rattle.link.proofs.InOrder.{Good, taken_cases, good_happens, good_run}
use Rattle.link.proofs.Lasting.{lasts_same, lasts_on, lasts_happens, lasts_run}

-- an acknowledgement of what was sent is believed
acknowledged_to_reaches : (n : ℕ) (s : Sending) → n ≤ last_sent s → n ≤ (acknowledged_to n s).acknowledged
acknowledged_to_reaches n s h = grind (arith, nat_tests)

module _ {M : Type 0} where
  -- the last answer is what the end that takes says now
  abbrev Answered : Line M → Type 0
  Answered w = slice_get w.replies (length w.replies - 1) ≡ Some (acknowledgement_of w.receiver)

  -- ONE PACKET
  decided_answered : (m : M) (t : Result Receiver Refusal) (w : Line M) → Answered (decided m t w)
  decided_answered m (Ok r) w = get-last w.replies (acknowledgement_of r)
  decided_answered m (Err e) w = get-last w.replies (acknowledgement_of w.receiver)

  packet_reaches : (c : ℕ) (w : Line M) → Good c w → (a : ℕ) (m : M) → a ≤ length w.got → a < length (packet_came (packet c (suc a) m) w).got
  packet_reaches c w g a m h =
      let here : w.receiver.connection ≡ c = ap (λ (r : Receiver). r.connection) g.in_order.last in
      let at : w.receiver.last ≡ length w.got = ap (λ (r : Receiver). r.last) g.in_order.last in
      ⊎_elim
      (λ k. subst (λ t. a < length (decided m t w).got) (sym k.2) (omega (arith, length-append w.got (m ∷ []), h)))
      (λ k. let n = k.0 (sym here) in subst (λ t. a < length (decided m t w).got) (sym k.2) (omega (arith, length-append w.got [], h, at, n)))
      (taken_cases c (suc a) w.receiver)

  packet_comes : (w : Line M) (k : ℕ) (p : Packet M) → slice_get w.packets k ≡ Some p → happens (Packet_comes k) w ≡ packet_came p w
  packet_comes w k p e = ap (λ o. if_some packet_came o w) e

  -- THE PACKETS OF A TICK, one after another
  -- those with the numbers above a are there from that place on
  abbrev Stands : ℕ → ℕ → ℕ → ℕ → Line M → Type 0
  Stands c first a n w = (i : ℕ) → i < n → (m : M) × (slice_get w.packets (first + i) ≡ Some (packet c (suc (a + i)) m))

  -- what there is once they have come
  record Come (c a n : ℕ) (w v : Line M) : Type 0 where
    good : Good c v
    lasting : Lasting w v
    reached : a + n ≤ length v.got
    answered : (n ≡ 0 → Answered w) → Answered v

  stands_later : (c first a n : ℕ) {w v : Line M} → Lasting w v → Stands c first a n w → Stands c first a n v
  stands_later c first a n l s i h = let k = s i h in (k.0, get-grows (first + i) (packet c (suc (a + i)) k.0) l.packets k.1)

  stands_after : (c first a n : ℕ) (w : Line M) → Stands c first a (suc n) w → Stands c (suc first) (suc a) n w
  stands_after c first a n w s i h =
      let k = s (suc i) (omega arith) in
      let e : suc first + i ≡ first + suc i = omega arith in
      let f : a + suc i ≡ suc a + i = omega arith in
      (k.0, ap (slice_get w.packets) e ∙ k.1 ∙ ap (λ n. Some (packet c (suc n) k.0)) f)

  stands_here : (c first a n : ℕ) (w : Line M) → Stands c first a (suc n) w → (m : M) × (slice_get w.packets first ≡ Some (packet c (suc a) m))
  stands_here c first a n w s =
      let k = s 0 (omega arith) in
      let e : first ≡ first + 0 = omega arith in
      let f : a + 0 ≡ a = omega arith in
      (k.0, ap (slice_get w.packets) e ∙ k.1 ∙ ap (λ n. Some (packet c (suc n) k.0)) f)

  come : (c : ℕ) (others : ℕ → List (Event M)) (n first a : ℕ) (w : Line M) → Good c w → Stands c first a n w → a ≤ length w.got → Come c a n w (all_come others first n w)
  unfolding all_come
  come c others zero first a w g s h = record { good = g; lasting = lasts_same w; reached = omega arith; answered = λ t. t refl }
  come c others (suc n) first a w g s h =
      let v = run (others first) w in
      let l = lasts_run w (others first) in
      let good_v = good_run c (others first) w g in
      let s′ = stands_later c first a (suc n) l s in
      let k = stands_here c first a n v s′ in
      let is = packet_comes v first (packet c (suc a) k.0) k.1 in
      let l′ = lasts_happens v (Packet_comes first) in
      let here = packet_reaches c v good_v a k.0 (le_trans h (length-grows l.got)) in
      let r = come c others n (suc first) (suc a) (happens (Packet_comes first) v) (good_happens c v good_v (Packet_comes first))
      (stands_later c (suc first) (suc a) n l′ (stands_after c first a n v s′)) (subst (λ (u : Line M). a < length u.got) (sym is) here) in
      record {
        good = r.good;
        lasting = lasts_on l (lasts_on l′ r.lasting);
        reached = omega (arith, r.reached);
        answered = λ _. r.answered (λ _. subst Answered (sym is) (decided_answered k.0 (taken c (suc a) v.receiver) v));
      }

  -- THE LAST ANSWER comes
  reply_reaches : (c : ℕ) (a : Acknowledgement) (w : Line M) → Good c w → a.connection ≡ c → a.last ≤ length w.got → a.last ≤ (reply_came a w).sending.acknowledged
  reply_reaches c a w g e h = cond_both (a.connection == w.receiver.connection) _ w (λ (u : Line M). a.last ≤ u.sending.acknowledged)
      (λ _. acknowledged_to_reaches a.last w.sending (le_trans h g.were_sent))
      (λ n. absurd (eqb-false a.connection w.receiver.connection n (e ∙ sym (ap (λ (r : Receiver). r.connection) g.in_order.last))))

  replied_reaches : (c : ℕ) (others : List (Event M)) (w : Line M) → Good c w → Answered w → length w.got ≤ (replied others w).sending.acknowledged
  replied_reaches c others w g t =
      let v = run others w in
      let l = lasts_run w others in
      let last : w.receiver.last ≡ length w.got = ap (λ (r : Receiver). r.last) g.in_order.last in
      let is : happens (Reply_comes (length w.replies - 1)) v ≡ reply_came (acknowledgement_of w.receiver) v =
      ap (λ o. if_some reply_came o v) (get-grows (length w.replies - 1) (acknowledgement_of w.receiver) l.replies t) in
      let r = reply_reaches c (acknowledgement_of w.receiver) v (good_run c others w g) (ap (λ (r : Receiver). r.connection) g.in_order.last) (omega (arith, last, length-grows l.got)) in
      subst (λ (u : Line M). length w.got ≤ u.sending.acknowledged) (sym is) (omega (arith, r, last))

  -- A ROUND
  record Rounded (c : ℕ) (w v : Line M) : Type 0 where
    good : Good c v
    lasting : Lasting w v
    reached : last_sent w.sending ≤ v.sending.acknowledged

  -- the packets of a tick stand at the end
  tick_stands : (c : ℕ) (w : Line M) → Good c w → Stands c (length w.packets) w.sending.acknowledged (under_way w.sending).count (happens Tick w)
  tick_stands c w g i h =
      let k = get_there w.sent (w.sending.acknowledged + i) (omega (arith, h, g.in_order.total)) in
      let p = packets_of w.receiver.connection (under_way w.sending) w.sent in (
        k.0,
        get-append w.packets p i ∙ get-packets w.receiver.connection (under_way w.sending) w.sent i k.0 h k.1
            ∙ ap (λ n. Some (packet n (suc (w.sending.acknowledged + i)) k.0)) (ap (λ (r : Receiver). r.connection) g.in_order.last),
      )

  ticked_comes : (c : ℕ) (others : ℕ → List (Event M)) (w : Line M) → Good c w →
      Come c w.sending.acknowledged (under_way w.sending).count (happens Tick w) (ticked others w)
  ticked_comes c others w g = come c others (under_way w.sending).count (length w.packets) w.sending.acknowledged (happens Tick w)
      (good_happens c w g Tick) (tick_stands c w g) g.in_order.acknowledged

  rounded : (c : ℕ) (o : Others M) (w : Line M) → Good c w → Rounded c w (round o w)
  rounded c o w g =
      let v = run o.before_tick w in
      let l = lasts_run w o.before_tick in
      let y = good_run c o.before_tick w g in
      let u = ticked o.before_packet v in
      let k = ticked_comes c o.before_packet v y in
      let x = run o.before_answer u in
      let good_x = good_run c o.before_answer u k.good in
      let which = Reply_comes (length u.replies - 1) in
      let after : Lasting v (round o w) = lasts_on (lasts_happens v Tick) (lasts_on k.lasting (lasts_on (lasts_run u o.before_answer) (lasts_happens x which))) in
      let grown : last_sent w.sending ≤ last_sent v.sending = omega (arith, l.acknowledged, g.in_order.total, y.in_order.total, length-grows l.sent) in
      let told : last_sent v.sending ≤ (round o w).sending.acknowledged = ⊎_elim
      (λ some. let r = replied_reaches c o.before_answer u k.good (k.answered (λ e. absurd (omega arith))) in omega (arith, r, k.reached))
      (λ none. omega (arith, none, after.acknowledged))
      (cases_lt 0 (under_way v.sending).count) in
      record { good = good_happens c x good_x which; lasting = lasts_on l after; reached = le_trans grown told }

  rounds : (c : ℕ) (os : List (Others M)) (w : Line M) → Good c w → Good c (after_rounds os w) × Lasting w (after_rounds os w)
      × ((n : ℕ) → n ≤ length w.sent → n ≤ w.sending.acknowledged + length os * 16 → n ≤ (after_rounds os w).sending.acknowledged)
  unfolding after_rounds
  rounds c [] w g = (g, lasts_same w, λ n h k. omega arith)
  rounds c (o ∷ os) w g =
      let v = round o w in
      let y = rounded c o w g in
      let r = rounds c os v y.good in
      (r.0, lasts_on y.lasting r.1, λ n h k. r.2 n (le_trans h (length-grows y.lasting.sent)) (omega (arith, y.reached, g.in_order.total, h, k)))

  pub across : (c : ℕ) (os : List (Others M)) (w : Line M) → Good c w → length w.sent ≤ w.sending.acknowledged + length os * 16 → Across w (after_rounds os w)
  across c os w g h =
      let v = after_rounds os w in
      let r = rounds c os w g in
      let y : Good c v = r.0 in
      let a = r.2 (length w.sent) (omega arith) h in
      let b : length w.sent ≤ length v.got = omega (arith, a, y.in_order.acknowledged) in
      record {
        got = record {
          more = drop (length w.sent) v.got;
          whole = sym (take-append-drop (length w.sent) v.got) ∙ ap (λ l. l ++ drop (length w.sent) v.got)
              (ap (take (length w.sent)) y.in_order.first_part ∙ take-take (length w.sent) (length v.got) v.sent b
              ∙ take-grows (length w.sent) (omega arith) r.1.sent ∙ take_all (length w.sent) w.sent (omega arith));
        };
        acknowledged = a;
      }
