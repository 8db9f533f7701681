-- What an outbox has under a number is the message that was put in under it.
use Rattle.std.proofs.Common.{◌≡◌, ℕ, suc, ◌+◌, ◌-◌, ◌≤◌, Bool, true, false, cond, ◌&&◌, List, [], ◌∷◌, ◌++◌, length, drop, None, slice_get, refl, sym, ap, ◌∙◌, arith, ltb, leb, lt-ltb}
use Rattle.std.proofs.lemmas.Bool.{leb-true, ltb-true}
use Rattle.std.proofs.lemmas.List.{drop-append-le, length-drop, drop-drop, length-append}
use Rattle.link.specs.Numbering.{has_number, last_sent}
use Rattle.link.specs.Outboxes.{sending_of, without_first}
use Rattle.link.specs.Lasting.{OutboxEvent, Pushes, Acknowledges, Posted, nothing_posted, posts, posted, OutboxKeeps}
use Rattle.link.proofs.Places.{slice_get-drop}

module _ {M : Type 0} where
  -- what waits is what was put in and is not acknowledged
  record Kept (p : Posted M) : Type 0 where
    waiting : p.outbox.waiting ≡ drop p.outbox.acknowledged p.sent
    few : p.outbox.acknowledged ≤ length p.sent

  pushes : (b : Bool) (m : M) (p : Posted M) → Kept p →
      Kept (record { outbox = cond b (record { acknowledged = p.outbox.acknowledged; waiting = p.outbox.waiting ++ m ∷ [] }) p.outbox; sent = cond b (p.sent ++ m ∷ []) p.sent })
  pushes true m p k = record {
    waiting = ap (λ ms. ms ++ m ∷ []) k.waiting ∙ sym (drop-append-le p.outbox.acknowledged p.sent (m ∷ []) k.few);
    few = omega (arith, k.few, length-append p.sent (m ∷ []));
  }
  pushes false m p k = k

  -- so many more are acknowledged, of those that wait
  acknowledges : (a : ℕ) (p : Posted M) → Kept p → p.outbox.acknowledged ≤ a → a ≤ p.outbox.acknowledged + length p.outbox.waiting → Kept (record { outbox = without_first a p.outbox; sent = p.sent })
  acknowledges a p k from to =
      let back : p.outbox.acknowledged + (a - p.outbox.acknowledged) ≡ a = omega arith in
      record {
        waiting = ap (drop (a - p.outbox.acknowledged)) k.waiting ∙ drop-drop (a - p.outbox.acknowledged) p.outbox.acknowledged p.sent ∙ ap (λ n. drop n p.sent) back;
        few = omega (arith, k.few, to, ap length k.waiting, length-drop p.outbox.acknowledged p.sent);
      }

  heard : (n : ℕ) (p : Posted M) (above sent : Bool) → ltb p.outbox.acknowledged n ≡ above → leb n (last_sent (sending_of p.outbox)) ≡ sent → Kept p →
      Kept (record { outbox = without_first (cond (above && sent) (record { acknowledged = n; total = (sending_of p.outbox).total }) (sending_of p.outbox)).acknowledged p.outbox; sent = p.sent })
  heard n p true true a s k = acknowledges n p k (omega (arith, ltb-true _ _ a)) (omega (arith, leb-true _ _ s))
  heard n p true false a s k = acknowledges p.outbox.acknowledged p k (omega arith) (omega arith)
  heard n p false sent a s k = acknowledges p.outbox.acknowledged p k (omega arith) (omega arith)

  keeps : (e : OutboxEvent M) (p : Posted M) → Kept p → Kept (posts e p)
  keeps (Pushes m) p k = pushes (has_number (sending_of p.outbox)) m p k
  keeps (Acknowledges n) p k = heard n p _ _ refl refl k

  kept : (es : List (OutboxEvent M)) (p : Posted M) → Kept p → Kept (posted es p)
  unfolding posted
  kept [] p k = k
  kept (e ∷ es) p k = kept es (posts e p) (keeps e p k)

  under : (p : Posted M) (n : ℕ) → Kept p → p.outbox.acknowledged ≤ n →
      cond (ltb p.outbox.acknowledged (suc n)) (slice_get p.outbox.waiting (suc n - p.outbox.acknowledged - 1)) None ≡ slice_get p.sent n
  under p n k le =
      let place : suc n - p.outbox.acknowledged - 1 ≡ n - p.outbox.acknowledged = omega arith in
      let back : p.outbox.acknowledged + (n - p.outbox.acknowledged) ≡ n = omega arith in
      rw (lt-ltb p.outbox.acknowledged (suc n) (omega arith), place, k.waiting) (slice_get-drop p.outbox.acknowledged p.sent (n - p.outbox.acknowledged) ∙ ap (slice_get p.sent) back)

  pub outbox_keeps : OutboxKeeps M
  outbox_keeps es n le = under (posted es nothing_posted) n (kept es nothing_posted (record { waiting = refl; few = omega arith })) le
