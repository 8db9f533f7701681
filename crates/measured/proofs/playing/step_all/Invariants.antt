use Rattle.std.proofs.Common.{◌≡◌, drop}
use Rattle.client.specs.Clients.{client_of}
use Rattle.measured.specs.Rows.{run, stepped}
use Rattle.measured.proofs.playing.step_all.Given as goal

abbrev pub invariant-loop-row : goal.invariant-loop-row
invariant-loop-row l = run stepped l.rows (client_of l.initial.client) ≡ run stepped (drop l.row-index l.rows) (client_of l.client)
