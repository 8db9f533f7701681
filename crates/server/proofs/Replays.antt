-- A history is done to a text, one operation after another.
use Rattle.std.proofs.Common.{◌≡◌, ℕ, List, [], ◌∷◌, ◌++◌, Option, Some, None, refl, ap, ◌∙◌}
use Rattle.operation.specs.Edits.{apply}
use Rattle.text.specs.declared.refusal.Refusal.{Refusal as TextRefusal}
use Rattle.text.specs.Texts.{Letter, signed, refusal}
use Rattle.server.specs.Seats.{Op}
use Rattle.server.specs.Servers.{Replayed, or_stop, replayed}

-- nothing is refused, and the text is u
abbrev pub all_done : List Letter → Replayed
all_done u = record { failed = None; text = u }

-- of the first operation
first_done : (x : Option TextRefusal) (r : Replayed) (t u : List Letter) → or_stop x r t ≡ all_done u → (x ≡ None) × (r ≡ all_done u)
first_done None r t u e = (refl, e)
first_done (Some x) r t u e = absurd (let z : Some x ≡ None = ap (λ (r : Replayed). r.failed) e in cc)

-- one operation more
pub replayed-more : (n : ℕ) (os : List Op) (o : Op) (t u : List Letter) → replayed n os t ≡ all_done u → refusal n o u ≡ None → replayed n (os ++ o ∷ []) t ≡ all_done (apply (signed o) u)
unfolding replayed
replayed-more n [] o t u e none =
    let same : t ≡ u = ap (λ (r : Replayed). r.text) e in
    rw (same, none) refl
replayed-more n (p ∷ os) o t u e none =
    let f = first_done (refusal n p t) (replayed n os (apply (signed p) t)) t u e in
    ap (λ x. or_stop x (replayed n (os ++ o ∷ []) (apply (signed p) t)) t) f.0 ∙ replayed-more n os o (apply (signed p) t) u f.1 none
