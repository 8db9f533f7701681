use Rattle.std.proofs.Common.{sym, ◌∙◌, arith}
use Rattle.std.proofs.lemmas.Bool.{eq-eqb, ne_eqb, cond-true, cond-false}
use Rattle.server.proofs.Told.{told_more}
use Rattle.server.proofs.seating.announce.Goals as goal
use Rattle.server.proofs.seating.announce.Goals.{then-i-from, else-i-from}

pub loop-i-preserved : goal.loop-i-preserved
loop-i-preserved c =
    let from = c.args.from in
    let i = c.loop-i.i in
    elim c.if-i-from.branch [
      | then-i-from w ↦ rw w.sessions-is
          (told_more from c.args.entry _ c.loop-i.sessions i c.index-sessions-i.result w.tell.new.self (omega arith)
          (w.tell.ensures ∙ sym (cond-false _ _ _ (ne_eqb i from w.if-i-from.true))) c.loop-i.invariant)
      | else-i-from w ↦ rw w.sessions-is
          (told_more from c.args.entry _ c.loop-i.sessions i c.index-sessions-i.result _ (omega arith)
          (sym (cond-true _ _ _ (eq-eqb i from w.if-i-from.false))) c.loop-i.invariant)
    ]
