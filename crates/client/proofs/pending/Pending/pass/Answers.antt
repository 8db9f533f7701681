use Rattle.std.proofs.Common.{◌≡◌, ℕ, List, set, sym, refl, ap, ◌∙◌, arith}
use Rattle.operation.specs.declared.operation.Operation.{Operation}
use Rattle.operation.specs.declared.operation.Operation.TheVariants.{Noop, Insert, Delete}
use Rattle.operation.specs.Edits.{site}
use Rattle.operation.specs.Transform.{transform, bounded, transformed}
use Rattle.operation.proofs.Shapes.{site_stays}
use Rattle.operation.proofs.Passing.{Passing, passing_none, passing_more, passing_all}
use Rattle.client.specs.Pendings.{operation_of, pendings}
use Rattle.client.proofs.Joined.{length-pendings}
use Rattle.client.proofs.pending.Pending.pass.Goals as goal

site-bounded : (o : Operation ℕ) → site (bounded o) ≡ site o
site-bounded (Noop i) = refl
site-bounded (Insert i p x) = refl
site-bounded (Delete i p) = refl

moved : {op one one' : Operation ℕ} {xs ys ys' : List (Operation ℕ)} {i : ℕ} → one' ≡ one → ys' ≡ ys →
    Passing transformed transformed op one xs ys i → Passing transformed transformed op one' xs ys' i
moved p q h = rw (p, q) h

pub loop-i-init : goal.loop-i-init
loop-i-init c = (passing_none transformed transformed c.args.op (pendings c.args.self.now), refl)

pub loop-i-preserved : goal.loop-i-preserved
loop-i-preserved c =
    let n = length-pendings c.args.self.now in
    let l = c.loop-i.invariant.0.long in
    let m = passing_more transformed transformed (Noop 0) c.at-old.result (omega arith) c.at-old.ensures.value c.loop-i.invariant.0 in
    let own =
    ap (λ (o : Operation ℕ). site o) c.transform.ensures ∙ site-bounded (transform c.at-old.result c.loop-i.one)
    ∙ site_stays c.at-old.result c.loop-i.one ∙ c.at-old.ensures.own
    in
    let put = ap (λ i. operation_of i c.into.result) (sym own) ∙ c.into.ensures ∙ c.transform.ensures in
    (moved c.transform-one.ensures (c.set.ensures.after ∙ ap (set (pendings c.loop-i.self) c.loop-i.i) put) m, c.set.ensures.site ∙ c.loop-i.invariant.1)

pub returns : goal.returns
returns c =
    let n = length-pendings c.args.self.now in
    let e = passing_all transformed transformed (omega arith) c.loop-i.invariant.0 in
    record { one = e.0; others = e.1; site = c.loop-i.invariant.1 }
