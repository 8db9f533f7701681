-- What is sent under a number is never another, however much later.
use Rattle.std.proofs.Common.{◌≡◌, ℕ, List, Some, slice_get, sym, ap, ◌∙◌, arith}
use Rattle.std.proofs.lemmas.Option.{same_Some}
use Rattle.operation.specs.Letters.{◌∈◌}
use Rattle.link.specs.declared.datagram.Packet.{Packet}
use Rattle.link.specs.Deliveries.{Line, Event, run, opened}
use Rattle.link.proofs.Grown.{in_grown}
use Rattle.link.proofs.InOrder.{Good, good_run, good_opened}
use Rattle.link.proofs.Lasting.{lasts_run}

module _ {M : Type 0} where
  one_message : (xs : List M) (m n : ℕ) (x y : M) → m ≡ n → slice_get xs m ≡ Some x → slice_get xs n ≡ Some y → x ≡ y
  one_message xs m n x y e f g = same_Some x y (sym f ∙ ap (slice_get xs) e ∙ g)

  one_packet : (c : ℕ) (w : Line M) → Good c w → (p q : Packet M) → p ∈ w.packets → q ∈ w.packets → p.number ≡ q.number → p ≡ q
  one_packet c w g p q i j e =
      let k = g.in_order.genuine p i in
      let l = g.in_order.genuine q j in
      let a : p.connection ≡ q.connection = k.0 ∙ sym l.0 in
      let b = one_message w.sent k.1 l.1 p.message q.message (omega (arith, k.2, l.2, e)) k.3 l.3 in
      ap (λ x. record { connection = x; number = p.number; message = p.message }) a ∙ ap (λ x. record { connection = q.connection; number = x; message = p.message }) e
      ∙ ap (λ x. record { connection = q.connection; number = q.number; message = x }) b

  pub never_another : (c : ℕ) (es fs : List (Event M)) (p q : Packet M) → p ∈ (run es (opened c)).packets → q ∈ (run fs (run es (opened c))).packets →
      p.number ≡ q.number → p ≡ q
  never_another c es fs p q i j e =
      let w = run es (opened c) in
      one_packet c (run fs w) (good_run c fs w (good_run c es (opened c) (good_opened c))) p q (in_grown (lasts_run w fs).packets i) j e
