use Rattle.std.proofs.Common.{◌≡◌, ◌≢◌, length}
use Rattle.link.specs.Messages.{with_message}
use Rattle.link.specs.Shown.{from_server}
use Rattle.link.specs.Spelling.{spelling}
use Rattle.measured.proofs.often.write_often.Given as goal

abbrev pub invariant-loop : goal.invariant-loop
invariant-loop l = l.count ≢ 0 → l.count ≡ length (spelling (with_message from_server l.datagram))
