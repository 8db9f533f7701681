use Rattle.std.proofs.Common.{ap, ◌∙◌, arith}
use Rattle.link.specs.Messages.{with_message}
use Rattle.link.specs.Shown.{from_server}
use Rattle.link.specs.Reading.{from_server_at}
use Rattle.link.proofs.Datagrams.{from_server_takes, from_server_again}
use Rattle.link.proofs.Prefixes.{cut_is_refused, longer_is_refused}
use Rattle.link.proofs.ReadResults.{is_found, is_read}
use Rattle.link.proofs.reading.read_from_server.Goals as goal

pub returns-clause-found : goal.returns-clause-found
returns-clause-found c =
    let takes = from_server_takes c.args.bytes.now (λ i. omega (arith, c.type_inv.bytes i)) in
    rw c.ok_or.ensures.value (is_found (with_message from_server) c.datagram_from_server.result _ takes c.datagram_from_server.ensures)

pub returns-clause-only : goal.returns-clause-only
returns-clause-only c = λ d by s is. rw c.ok_or.ensures.value (is_read (with_message from_server) c.datagram_from_server.result d (c.datagram_from_server.ensures ∙ ap from_server_at is ∙ from_server_again d by s))

pub returns-clause-cut : goal.returns-clause-cut
returns-clause-cut c = cut_is_refused (with_message from_server) c.args.bytes.now c.ok_or.result (returns-clause-found c)

pub returns-clause-longer : goal.returns-clause-longer
returns-clause-longer c = longer_is_refused (with_message from_server) c.args.bytes.now c.ok_or.result (returns-clause-found c)
