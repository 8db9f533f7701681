use Rattle.std.proofs.Common.{sym, ap, ◌∙◌, arith, drop, get_or, ◌+◌}
use Rattle.server.specs.Servers.{room_of, state_of}
use Rattle.measured.specs.declared.row.Row.{Row}
use Rattle.measured.specs.Rows.{run, served}
use Rattle.measured.proofs.Running.{run_all, run_more}
use Rattle.measured.proofs.playing.serve_all.Goals as goal

pub loop-row-preserved : goal.loop-row-preserved
loop-row-preserved c =
    let i = c.loop-row.invariant in
    let rows = c.args.rows.now in
    let n = room_of c.args.server.now in
    let l = c.in_ok-serve.ensures in
    let none : Row = record { kind = 0; site = 0; revision = 0; place = 0; letter = 0 } in
    let row = get_or rows c.loop-row.row-index none in
    record {
      room = l.room ∙ i.room;
      left = i.left ∙ run_more (served n) rows c.loop-row.row-index (state_of c.loop-row.server) none (omega arith)
          ∙ ap (run (served n) (drop (c.loop-row.row-index + 1) rows)) (ap (λ m. served m row (state_of c.loop-row.server)) (sym i.room) ∙ sym l.state);
    }

pub returns : goal.returns
returns c =
    let i = c.loop-row.invariant in
    record { state = sym (i.left ∙ run_all (served (room_of c.args.server.now)) c.args.rows.now c.loop-row.row-index (state_of c.loop-row.server) (omega arith)); room = i.room }
