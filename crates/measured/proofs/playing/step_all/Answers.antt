use Rattle.std.proofs.Common.{sym, ap, ◌∙◌, arith, drop, ◌+◌}
use Rattle.client.specs.Clients.{client_of}
use Rattle.measured.specs.Rows.{run, stepped}
use Rattle.measured.proofs.Running.{run_all, run_more}
use Rattle.measured.proofs.playing.step_all.Goals as goal

pub loop-row-preserved : goal.loop-row-preserved
loop-row-preserved c =
    c.loop-row.invariant ∙ run_more stepped c.args.rows.now c.loop-row.row-index (client_of c.loop-row.client) _ (omega arith)
    ∙ ap (run stepped (drop (c.loop-row.row-index + 1) c.args.rows.now)) (sym c.step-client.ensures)

pub returns : goal.returns
returns c = sym (c.loop-row.invariant ∙ run_all stepped c.args.rows.now c.loop-row.row-index (client_of c.loop-row.client) (omega arith))
