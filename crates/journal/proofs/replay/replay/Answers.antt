use Rattle.std.proofs.Common.{◌≡◌, Some, Ok, drop, sym, ap, ◌∙◌}
use Rattle.std.proofs.lemmas.List.{take_rest}
use Rattle.journal.specs.Replaying.{found}
use Rattle.journal.specs.Openings.{contents_in}
use Rattle.journal.proofs.Finds.{fits_there, taken_there}
use Rattle.journal.proofs.replay.replay.Goals as goal

-- src/replay.rt:21:5
pub loop-count-preserved : goal.loop-count-preserved
loop-count-preserved c =
    let there : found (drop c.loop-count.count c.args.bytes.now) ≡ Ok (Some c.in-Some.record) = sym (ap found (take_rest c.args.bytes.now c.loop-count.count)) ∙ sym c.find.ensures ∙ c.in-Ok.is ∙ ap Ok c.in-Some.is in
    let bytes = c.args.bytes.now in
    let n = c.loop-count.count in
    rw c.length-count.ensures (fits_there bytes n c.in-Some.record c.loop-count.invariant.0 there, taken_there bytes n c.in-Some.record _ (contents_in c.loop-count.recovered) _ c.loop-count.invariant.1 there (c.in_ok-take.ensures.taken))
