-- Whatever happens, what was taken is a first part of what was sent, and the rest of what holds always.
use Rattle.std.proofs.Common.{◌≡◌, ℕ, suc, ◌+◌, ◌<◌, ◌≤◌, ◌⊎◌, true, ◌==◌, List, [], ◌∷◌, ◌++◌, length, take, Some, None, Option, Ok, Err, slice_get, refl, sym, ap, ◌∙◌, subst, ⊎_elim, arith}
use Rattle.std.proofs.lemmas.Bool.{cond_both, cond-true, ltb-true, eqb-true, eqb-false, cases_lt}
use Rattle.std.proofs.lemmas.Bool.Decides.{nat_tests}
use Rattle.std.proofs.lemmas.List.{append-nil, length-append, length_push, take_more}
use Rattle.std.proofs.lemmas.Option.{get_or_from_slice_get, slice_get_within}
use mathlib.Core.List.Memᴰ
use Rattle.operation.specs.Letters.{◌∈◌}
use Rattle.link.specs.declared.datagram.Packet.{Packet}
use Rattle.link.specs.declared.datagram.Acknowledgement.{Acknowledgement}
use Rattle.link.specs.declared.refusal.Refusal.{Refusal}
use Rattle.link.specs.declared.receiver.Receiver.{Receiver}
use Rattle.link.specs.declared.window.Numbers.{Numbers}
use Rattle.link.specs.Numbering.{Sending, has_number, pushed, acknowledged_to, last_sent, newly_sent, under_way, taken, acknowledgement_of}
use Rattle.link.specs.Deliveries.{Line, Event, Push, Tick, Packet_comes, Reply_comes, Stray_packet, Stray_reply, Grows, opened, packets_of, sends, answers, decided, packet_came, reply_came, if_some, happens, run, InOrder}
use Rattle.link.proofs.Grown.{grows_none, grows_by, length-grows, take-grows, get-grows, get_before, get_in, in_one}
use Rattle.link.proofs.Packets.{packet, of_packets, in_packets}

-- what an acknowledgement does to the end that sends: its messages stay, and what is acknowledged only grows, up to it at most
pub acknowledged_to_keeps : (n : ℕ) (s : Sending) → ((acknowledged_to n s).total ≡ s.total) × (s.acknowledged ≤ (acknowledged_to n s).acknowledged)
acknowledged_to_keeps n s = grind (arith, nat_tests)

acknowledged_to_within : (n : ℕ) (s : Sending) (b : ℕ) → n ≤ b → s.acknowledged ≤ b → (acknowledged_to n s).acknowledged ≤ b
acknowledged_to_within n s b h k = grind (arith, nat_tests)

pub pushed_is : (s : Sending) → has_number s ≡ true → pushed s ≡ record { acknowledged = s.acknowledged; total = s.total + 1 }
pushed_is s e = cond-true (has_number s) (record { acknowledged = s.acknowledged; total = s.total + 1 }) s e

-- a packet is taken if it is the next of this connection, and only then
pub taken_cases : (c n : ℕ) (r : Receiver) →
    ((c ≡ r.connection) × (n ≡ suc r.last) × (taken c n r ≡ Ok (record { connection = c; last = n }))) ⊎
    ((c ≡ r.connection → n ≡ suc r.last → ⊥) × (e : Refusal) × (taken c n r ≡ Err e))
taken_cases c n r = grind (arith, nat_tests)

module _ {M : Type 0} where
  -- what holds always, and what is needed beside it for the next step
  pub record Good (c : ℕ) (w : Line M) : Type 0 where
    pub in_order : InOrder c w
    pub were_sent : length w.got ≤ last_sent w.sending
    pub below : (p : Packet M) → p ∈ w.packets → p.number ≤ last_sent w.sending

  -- a step of the end that sends
  pub record Sends (w : Line M) (s : Sending) (ms : List M) (ns : Numbers) : Type 0 where
    pub sent : Grows w.sent ms
    pub total : s.total ≡ length ms
    pub numbers : length ms ≤ 4294967295
    pub more : w.sending.acknowledged ≤ s.acknowledged
    pub taken : s.acknowledged ≤ length w.got
    pub start : ns.after ≤ last_sent w.sending
    pub finish : ns.after + ns.count ≡ last_sent s

  module _ (c : ℕ) (w : Line M) (g : Good c w) where
    open g.in_order use {first_part, no_more, last, total, numbers, replies, acknowledged, genuine, few, all_sent}

    connection : w.receiver.connection ≡ c
    connection = ap (λ r. r.connection) last

    -- the end that sends goes on
    good_sends : (s : Sending) (ms : List M) (ns : Numbers) → Sends w s ms ns → Good c (sends s ms ns w)
    good_sends s ms ns h =
        let longer : length w.sent ≤ length ms = length-grows h.sent in
        let later : last_sent w.sending ≤ last_sent s = omega (arith, total, h.total, h.more) in
        let new : (p : Packet M) → p ∈ packets_of w.receiver.connection ns ms →
        (p.connection ≡ w.receiver.connection) × (n : ℕ) × (p.number ≡ suc n) × (slice_get ms n ≡ Some p.message) × (n < ns.after + ns.count) = of_packets w.receiver.connection ns ms in
        let low : (p : Packet M) → p ∈ w.packets ++ packets_of w.receiver.connection ns ms → p.number ≤ last_sent s = λ p m. ⊎_elim
        (λ a. omega (arith, g.below p a, later))
        (λ b. let k = new p b in omega (arith, k.2, k.4, h.finish))
        (Memᴰ.append_cases w.packets m) in
        record {
          in_order = record {
            first_part = first_part ∙ sym (take-grows (length w.got) no_more h.sent);
            no_more = omega (arith, no_more, longer);
            last = last;
            total = h.total;
            numbers = h.numbers;
            replies = replies;
            acknowledged = h.taken;
            genuine = λ p m. ⊎_elim
                (λ a. let k = genuine p a in (k.0, k.1, k.2, get-grows k.1 p.message h.sent k.3))
                (λ b. let k = new p b in (k.0 ∙ connection, k.1, k.2, k.3))
                (Memᴰ.append_cases w.packets m);
            few = λ p m. omega (arith, low p m);
            all_sent = λ n m b e. ⊎_elim
                (λ old. Memᴰ.append_left (packets_of w.receiver.connection ns ms) (all_sent n m old (get_before n m h.sent (omega (arith, old, total)) e)))
                (λ new. Memᴰ.append_right w.packets (subst (λ k. packet k (suc n) m ∈ packets_of w.receiver.connection ns ms) connection
                (in_packets w.receiver.connection ns ms n m (omega (arith, new, h.start)) (omega (arith, b, h.finish)) e)))
                (cases_lt n (last_sent w.sending));
          };
          were_sent = omega (arith, g.were_sent, later);
          below = low;
        }

    -- what goes out at a step beside a tick
    good_goes_on : (s : Sending) (ms : List M) → Grows w.sent ms → s.total ≡ length ms → length ms ≤ 4294967295 → w.sending.acknowledged ≤ s.acknowledged →
        s.acknowledged ≤ length w.got → Good c (sends s ms (newly_sent w.sending s) w)
    good_goes_on s ms more total′ numbers′ up within =
        let longer : length w.sent ≤ length ms = length-grows more in
        good_sends s ms (newly_sent w.sending s) (record {
          sent = more;
          total = total′;
          numbers = numbers′;
          more = up;
          taken = within;
          start = omega arith;
          finish = omega (arith, longer, total, total′, up);
        })

    good_reply : (a : Acknowledgement) → (a.connection ≡ w.receiver.connection → a ∈ w.replies) → Good c (reply_came a w)
    good_reply a i = cond_both (a.connection == w.receiver.connection) _ w (Good c)
        (λ e. let k = acknowledged_to_keeps a.last w.sending in
        good_goes_on (acknowledged_to a.last w.sending) w.sent (grows_none w.sent) (k.0 ∙ total) numbers k.1
        (acknowledged_to_within a.last w.sending (length w.got) (replies a (i (eqb-true a.connection w.receiver.connection e))).1 acknowledged))
        (λ e. g)

    good_push : (m : M) → Good c (happens (Push m) w)
    good_push m = cond_both (has_number w.sending) _ w (Good c)
        (λ e. let p = pushed_is w.sending e in
        let b = ltb-true w.sending.total 4294967295 e in
        let l = length-append w.sent (m ∷ []) in
        good_goes_on (pushed w.sending) (w.sent ++ m ∷ []) (grows_by w.sent (m ∷ [])) (omega (arith, ap (λ (s : Sending). s.total) p, l, total)) (omega (arith, l, b, total))
        (omega (arith, ap (λ (s : Sending). s.acknowledged) p)) (omega (arith, acknowledged, ap (λ (s : Sending). s.acknowledged) p)))
        (λ e. g)

    good_tick : Good c (happens Tick w)
    good_tick = good_sends w.sending w.sent (under_way w.sending) (record {
      sent = grows_none w.sent;
      total = total;
      numbers = numbers;
      more = omega arith;
      taken = acknowledged;
      start = omega (arith, acknowledged, g.were_sent);
      finish = omega (arith, acknowledged, g.were_sent);
    })

    -- the end that takes: now it has these beside
    good_answers : (r : Receiver) (ms : List M) → w.got ++ ms ≡ take (length (w.got ++ ms)) w.sent → length (w.got ++ ms) ≤ last_sent w.sending →
        r ≡ record { connection = c; last = length (w.got ++ ms) } → Good c (answers r ms w)
    good_answers r ms f h is =
        let longer : length w.got ≤ length (w.got ++ ms) = omega (arith, length-append w.got ms) in
        record {
          in_order = record {
            first_part = f;
            no_more = omega (arith, h, total);
            last = is;
            total = total;
            numbers = numbers;
            replies = λ a m. ⊎_elim
                (λ old. let k = replies a old in (k.0, omega (arith, k.1, longer)))
                (λ new. let e : a ≡ acknowledgement_of r = in_one new in
                (ap (λ (x : Acknowledgement). x.connection) e ∙ ap (λ (x : Receiver). x.connection) is, omega (arith, ap (λ (x : Acknowledgement). x.last) e, ap (λ (x : Receiver). x.last) is)))
                (Memᴰ.append_cases w.replies m);
            acknowledged = omega (arith, acknowledged, longer);
            genuine = genuine;
            few = few;
            all_sent = all_sent;
          };
          were_sent = h;
          below = g.below;
        }

    good_refused : Good c (answers w.receiver [] w)
    good_refused = let e = append-nil w.got in
        good_answers w.receiver [] (e ∙ first_part ∙ ap (λ l. take (length l) w.sent) (sym e)) (omega (arith, ap length e, g.were_sent))
        (last ∙ ap (λ l. record { connection = c; last = length l }) (sym e))

    good_taken : (p : Packet M) → p ∈ w.packets → p.number ≡ suc w.receiver.last → Good c (answers (record { connection = p.connection; last = p.number }) (p.message ∷ []) w)
    good_taken p m e =
        let k = genuine p m in
        let here : k.1 ≡ length w.got = omega (arith, k.2, e, ap (λ (r : Receiver). r.last) last) in
        let at : slice_get w.sent (length w.got) ≡ Some p.message = ap (slice_get w.sent) (sym here) ∙ k.3 in
        let l = length_push w.got p.message in
        let next : w.got ++ p.message ∷ [] ≡ take (length w.got + 1) w.sent =
        ap (λ xs. xs ++ p.message ∷ []) first_part ∙ ap (λ x. take (length w.got) w.sent ++ x ∷ []) (sym (get_or_from_slice_get w.sent (length w.got) p.message p.message at))
        ∙ sym (take_more w.sent (length w.got) p.message (slice_get_within w.sent (length w.got) p.message at)) in
        good_answers (record { connection = p.connection; last = p.number }) (p.message ∷ [])
        (next ∙ ap (λ n. take n w.sent) (sym l)) (omega (arith, l, k.2, here, g.below p m))
        (let n : p.number ≡ length (w.got ++ p.message ∷ []) = omega (arith, l, k.2, here) in let o = k.0 in cc)

    good_packet : (p : Packet M) → (p.connection ≡ w.receiver.connection → p ∈ w.packets) → Good c (packet_came p w)
    good_packet p i = ⊎_elim
        (λ k. subst (λ t. Good c (decided p.message t w)) (sym k.2) (good_taken p (i k.0) k.1))
        (λ k. subst (λ t. Good c (decided p.message t w)) (sym k.2) good_refused)
        (taken_cases p.connection p.number w.receiver)

    -- something comes by its place
    good_some : {A : Type 0} (f : A → Line M → Line M) (xs : List A) (k : ℕ) → ((x : A) → x ∈ xs → Good c (f x w)) → Good c (if_some f (slice_get xs k) w)
    good_some {A} f xs k h = at (slice_get xs k) refl
      where
        at : (o : Option A) → slice_get xs k ≡ o → Good c (if_some f o w)
        at None e = g
        at (Some x) e = h x (get_in xs k x e)

    pub good_happens : (e : Event M) → Good c (happens e w)
    good_happens (Push m) = good_push m
    good_happens Tick = good_tick
    good_happens (Packet_comes k) = good_some packet_came w.packets k (λ p m. good_packet p (λ _. m))
    good_happens (Reply_comes k) = good_some reply_came w.replies k (λ a m. good_reply a (λ _. m))
    good_happens (Stray_packet p) = cond_both (p.connection == w.receiver.connection) w (packet_came p w) (Good c) (λ e. g)
        (λ e. good_packet p (λ h. absurd (eqb-false p.connection w.receiver.connection e h)))
    good_happens (Stray_reply a) = cond_both (a.connection == w.receiver.connection) w (reply_came a w) (Good c) (λ e. g)
        (λ e. good_reply a (λ h. absurd (eqb-false a.connection w.receiver.connection e h)))

  pub good_run : (c : ℕ) (es : List (Event M)) (w : Line M) → Good c w → Good c (run es w)
  unfolding run
  good_run c [] w g = g
  good_run c (e ∷ es) w g = good_run c es (happens e w) (good_happens c w g e)

  pub good_opened : (c : ℕ) → Good c (opened {M = M} c)
  good_opened c = record {
    in_order = record {
      first_part = refl;
      no_more = omega arith;
      last = refl;
      total = refl;
      numbers = omega arith;
      replies = λ a m. absurd (Memᴰ.not-nil m);
      acknowledged = omega arith;
      genuine = λ p m. absurd (Memᴰ.not-nil m);
      few = λ p m. absurd (Memᴰ.not-nil m);
      all_sent = λ n m h e. absurd cc;
    };
    were_sent = omega arith;
    below = λ p m. absurd (Memᴰ.not-nil m);
  }
