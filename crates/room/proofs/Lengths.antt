-- How long texts are within the code's limits: those of the history, and what clients show.
use Rattle.std.proofs.Common.{◌≡◌, ℕ, ◌+◌, ◌<◌, ◌≤◌, List, [], ◌∷◌, length, take, sym, ap, ◌∙◌, subst, arith}
use Rattle.std.proofs.lemmas.List.{take-map}
use mathlib.Core.List.Memᴰ
use Rattle.operation.specs.declared.operation.Operation.TheVariants.{Noop, Insert, Delete}
use Rattle.operation.specs.Letters.{◌∈◌}
use Rattle.operation.specs.Laws.{apply_all}
use Rattle.operation.proofs.Bounds.{length-apply}
use Rattle.operation.proofs.Tp1.{length-insert_at}
use Rattle.network.specs.Runs.{Row}
use Rattle.network.specs.Written.{Signed, signed as signed_name, written, Named}
use Rattle.network.proofs.Invariants.{Mine, replay, Good}
use Rattle.room.specs.Reached.{NamedNet, NamedOp, Limited}

-- a letter more
pub longer : (o : NamedOp) (t : List (Signed Named)) → (written Named).Fits o t → (x : Signed Named) → x ∈ (written Named).puts o → length ((written Named).apply o t) ≡ length t + 1
longer (Noop i) t f x m = absurd (Memᴰ.not-nil m)
longer (Insert i p y) t f x m = omega (arith, length-insert_at p (record { letter = y; site = i }) t)
longer (Delete i p) t f x m = absurd (Memᴰ.not-nil m)

pub length_all : (i : ℕ) (os : List NamedOp) (t : List (Signed Named)) → Mine (written Named) i os t → length (apply_all (written Named) os t) ≤ length t + length os
unfolding Mine apply_all
length_all i [] t m = omega arith
length_all i (o ∷ os) t m = omega (arith, length-apply (signed_name o) t m.1, length_all i os ((written Named).apply o t) m.2)

module _ {n : NamedNet} (g : Good (written Named) n) (l : Limited n) where
  -- what so many entries make
  pub seen_short : (s : ℕ) → length (replay (written Named) (take s n.rows)) ≤ 65536
  seen_short s = subst (λ os. length (apply_all (written Named) os []) ≤ 65536) (ap (take s) g.recorded.history ∙ take-map (λ (e : Row NamedOp). e.op) s n.rows) (l.texts s)

  -- and what a client shows, with what is pending
  pub text_short : (c : ℕ) → c < n.connections → length (n.lives c).replica.text ≤ 65792
  text_short c h =
      let copy = (g.alive c h).copy in
      let a = seen_short (n.lives c).replica.revision in
      let b = length_all _ (n.lives c).replica.pending _ copy.stack.mine in
      let p = l.pending c in
      subst (λ (t : List (Signed Named)). length t ≤ 65792) (sym copy.text) (omega arith)
