use Rattle.std.proofs.Common.{ap, ◌∙◌, arith}
use Rattle.link.specs.Messages.{from_client, with_message}
use Rattle.link.specs.Reading.{from_client_at}
use Rattle.link.proofs.Datagrams.{from_client_takes, from_client_again}
use Rattle.link.proofs.Prefixes.{cut_is_refused, longer_is_refused}
use Rattle.link.proofs.ReadResults.{is_found, is_read, is_that_datagram}
use Rattle.link.proofs.reading.read_from_client.Goals as goal

pub returns-clause-found : goal.returns-clause-found
returns-clause-found c =
    let takes = from_client_takes c.args.bytes.now (λ i. omega (arith, c.type_inv.bytes i)) in
    rw c.ok_or.ensures.value (is_found (with_message from_client) c.datagram_from_client.result _ takes c.datagram_from_client.ensures)

pub returns-clause-only : goal.returns-clause-only
returns-clause-only c = λ d s is. is_that_datagram _ d (rw c.ok_or.ensures.value (is_read (with_message from_client) c.datagram_from_client.result (with_message from_client d) (c.datagram_from_client.ensures ∙ ap from_client_at is ∙ from_client_again d s)))

pub returns-clause-cut : goal.returns-clause-cut
returns-clause-cut c = cut_is_refused (with_message from_client) c.args.bytes.now c.ok_or.result (returns-clause-found c)

pub returns-clause-longer : goal.returns-clause-longer
returns-clause-longer c = longer_is_refused (with_message from_client) c.args.bytes.now c.ok_or.result (returns-clause-found c)
