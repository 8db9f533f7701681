-- With no tick each message goes once, in order.
use Rattle.std.proofs.Common.{◌≡◌, ℕ, suc, ◌+◌, ◌-◌, ◌≤◌, ◌==◌, List, [], ◌∷◌, ◌++◌, length, take, drop, Some, None, Option, Ok, Err, Result, slice_get, refl, sym, ap, ap₂, ◌∙◌, arith}
use Rattle.std.proofs.lemmas.Bool.{cond_both}
use Rattle.std.proofs.lemmas.List.{length-append, length-take-le, take-append-drop, take-take, drop-take}
use mathlib.Core.List.Memᴰ
use Rattle.operation.specs.Letters.{◌∈◌}
use Rattle.link.specs.declared.datagram.Packet.{Packet}
use Rattle.link.specs.declared.datagram.Acknowledgement.{Acknowledgement}
use Rattle.link.specs.declared.refusal.Refusal.{Refusal}
use Rattle.link.specs.declared.receiver.Receiver.{Receiver}
use Rattle.link.specs.Numbering.{Sending, has_number, pushed, acknowledged_to, last_sent, newly_sent, taken}
use Rattle.link.specs.Deliveries.{Line, Event, Push, Tick, Packet_comes, Reply_comes, Stray_packet, Stray_reply, Grows, opened, numbered, sends, decided, packet_came, reply_came, if_some, happens, run}
use Rattle.link.proofs.Grown.{grows_none, grows_by, length-grows, take-grows}
use Rattle.link.proofs.InOrder.{Good, good_happens, good_opened, acknowledged_to_keeps, pushed_is}

-- from a place to a later one
take_on : {A : Type 0} (m n : ℕ) (xs : List A) → m ≤ n → take n xs ≡ take m xs ++ take (n - m) (drop m xs)
take_on m n xs h =
    let e : m + (n - m) ≡ n = omega arith in
    sym (ap₂ ◌++◌ (sym (take-take m n xs h)) (sym (drop-take m (n - m) xs) ∙ ap (λ k. drop m (take k xs)) e) ∙ take-append-drop m (take n xs))

module _ {M : Type 0} where
  numbered-append : (c n : ℕ) (xs ys : List M) → numbered c n (xs ++ ys) ≡ numbered c n xs ++ numbered c (n + length xs) ys
  unfolding numbered
  numbered-append c n [] ys = ap (λ k. numbered c k ys) (omega arith)
  numbered-append c n (x ∷ xs) ys = ap (◌∷◌ (record { connection = c; number = n; message = x }))
      (numbered-append c (suc n) xs ys ∙ ap (λ k. numbered c (suc n) xs ++ numbered c k ys) (omega arith))

  -- what is on the line is each message once, up to the last number
  abbrev EachOnce : ℕ → Line M → Type 0
  EachOnce c w = w.packets ≡ numbered c 1 (take (last_sent w.sending) w.sent)

  module _ (c : ℕ) (w : Line M) (g : Good c w) (o : EachOnce c w) where
    once_goes_on : (s : Sending) (ms : List M) → Grows w.sent ms → s.total ≡ length ms → w.sending.acknowledged ≤ s.acknowledged → EachOnce c (sends s ms (newly_sent w.sending s) w)
    once_goes_on s ms more t up =
        let longer : length w.sent ≤ length ms = length-grows more in
        let old = last_sent w.sending in
        let fits : old ≤ length w.sent = omega (arith, g.in_order.total) in
        let later : old ≤ last_sent s = omega (arith, g.in_order.total, t, up, longer) in
        let new = take (last_sent s - old) (drop old ms) in
        let n : 1 + length (take old ms) ≡ old + 1 = omega (arith, length-take-le old ms (omega (arith, fits, longer))) in
        ap₂ (λ ps k. ps ++ numbered k (old + 1) new) (o ∙ ap (numbered c 1) (sym (take-grows old fits more))) (ap (λ (r : Receiver). r.connection) g.in_order.last)
        ∙ ap (λ k. numbered c 1 (take old ms) ++ numbered c k new) (sym n)
        ∙ sym (ap (numbered c 1) (take_on old (last_sent s) ms later) ∙ numbered-append c 1 (take old ms) new)

    once_push : (m : M) → EachOnce c (happens (Push m) w)
    once_push m = cond_both (has_number w.sending) _ w (EachOnce c)
        (λ e. let p = pushed_is w.sending e in
        once_goes_on (pushed w.sending) (w.sent ++ m ∷ []) (grows_by w.sent (m ∷ [])) (omega (arith, ap (λ (s : Sending). s.total) p, length-append w.sent (m ∷ []), g.in_order.total))
        (omega (arith, ap (λ (s : Sending). s.acknowledged) p)))
        (λ e. o)

    once_reply : (a : Acknowledgement) → EachOnce c (reply_came a w)
    once_reply a = cond_both (a.connection == w.receiver.connection) _ w (EachOnce c)
        (λ e. let k = acknowledged_to_keeps a.last w.sending in
        once_goes_on (acknowledged_to a.last w.sending) w.sent (grows_none w.sent) (k.0 ∙ g.in_order.total) k.1)
        (λ e. o)

    once_decided : (m : M) (t : Result Receiver Refusal) → EachOnce c (decided m t w)
    once_decided m (Ok r) = o
    once_decided m (Err e) = o

    once_packet : (p : Packet M) → EachOnce c (packet_came p w)
    once_packet p = once_decided p.message (taken p.connection p.number w.receiver)

    once_some : {A : Type 0} (f : A → Line M → Line M) → ((x : A) → EachOnce c (f x w)) → (x : Option A) → EachOnce c (if_some f x w)
    once_some f h None = o
    once_some f h (Some x) = h x

    once_happens : (e : Event M) → (e ≡ Tick → ⊥) → EachOnce c (happens e w)
    once_happens (Push m) n = once_push m
    once_happens Tick n = absurd (n refl)
    once_happens (Packet_comes k) n = once_some packet_came once_packet (slice_get w.packets k)
    once_happens (Reply_comes k) n = once_some reply_came once_reply (slice_get w.replies k)
    once_happens (Stray_packet p) n = cond_both (p.connection == w.receiver.connection) w (packet_came p w) (EachOnce c) (λ e. o) (λ e. once_packet p)
    once_happens (Stray_reply a) n = cond_both (a.connection == w.receiver.connection) w (reply_came a w) (EachOnce c) (λ e. o) (λ e. once_reply a)

  once_on : (c : ℕ) (es : List (Event M)) (w : Line M) → Good c w → EachOnce c w → (Tick ∈ es → ⊥) → EachOnce c (run es w)
  unfolding run
  once_on c [] w g o n = o
  once_on c (e ∷ es) w g o n = once_on c es (happens e w) (good_happens c w g e) (once_happens c w g o e (λ h. n (Memᴰ.head (sym h)))) (λ t. n (Memᴰ.tail t))

  pub once_run : (c : ℕ) (es : List (Event M)) → (Tick ∈ es → ⊥) → EachOnce c (run es (opened c))
  unfolding numbered
  once_run c es n = once_on c es (opened c) (good_opened c) refl n
