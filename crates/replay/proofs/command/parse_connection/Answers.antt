use Rattle.std.proofs.Common.{rules}
use Rattle.std.proofs.lemmas.Slice.Eq.{text_from_reads}
use Rattle.replay.proofs.command.parse_connection.Goals as goal

pub returns-in_ok-parse_number-in-connection : goal.returns-in_ok-parse_number-in-connection
returns-in_ok-parse_number-in-connection c = search (rules, text_from_reads)
