use Rattle.std.proofs.Common.{rules}
use Rattle.std.proofs.lemmas.Slice.Eq.{text_from_reads}
use Rattle.replay.proofs.command.parse_word.Goals as goal

pub returns-in-commit : goal.returns-in-commit
returns-in-commit c = search (rules, text_from_reads)
