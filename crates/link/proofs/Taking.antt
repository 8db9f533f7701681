-- The next packet of the connection is taken; any other is refused, and leaves the end that takes as it was.
use Rattle.std.proofs.Common.{◌≡◌, suc, [], ◌∷◌, ◌++◌, ap, ◌∙◌, ⊎_elim}
use Rattle.std.proofs.lemmas.List.{append-nil}
use Rattle.link.specs.declared.datagram.Packet.{Packet}
use Rattle.link.specs.Deliveries.{Line, decided, packet_came}
use Rattle.link.proofs.InOrder.{taken_cases}

module _ {M : Type 0} (w : Line M) (p : Packet M) where
  pub next_taken : p.connection ≡ w.receiver.connection → p.number ≡ suc w.receiver.last → (packet_came p w).got ≡ w.got ++ p.message ∷ []
  next_taken e f = ⊎_elim
      (λ k. ap (λ t. (decided p.message t w).got) k.2)
      (λ k. absurd (k.0 e f))
      (taken_cases p.connection p.number w.receiver)

  pub others_refused : (p.connection ≡ w.receiver.connection → p.number ≡ suc w.receiver.last → ⊥) → ((packet_came p w).got ≡ w.got) × ((packet_came p w).receiver ≡ w.receiver)
  others_refused n = ⊎_elim
      (λ k. absurd (n k.0 k.1))
      (λ k. (ap (λ t. (decided p.message t w).got) k.2 ∙ append-nil w.got, ap (λ t. (decided p.message t w).receiver) k.2))
      (taken_cases p.connection p.number w.receiver)
