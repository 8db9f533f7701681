use Rattle.std.proofs.Common.{◌≡◌, drop}
use Rattle.server.specs.Servers.{room_of, state_of}
use Rattle.measured.specs.Rows.{run, served}
use Rattle.measured.proofs.playing.serve_all.Given as goal

abbrev pub invariant-loop-row : goal.invariant-loop-row
invariant-loop-row l = record {
  room : room_of l.server ≡ room_of l.initial.server;
  left : run (served (room_of l.initial.server)) l.rows (state_of l.initial.server) ≡ run (served (room_of l.initial.server)) (drop l.row-index l.rows) (state_of l.server);
}
