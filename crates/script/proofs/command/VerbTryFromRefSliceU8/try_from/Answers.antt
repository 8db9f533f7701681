use Rattle.std.proofs.Common.{rules}
use Rattle.std.proofs.lemmas.Slice.Eq.{text_from_reads}
use Rattle.script.proofs.command.VerbTryFromRefSliceU8.try_from.Goals as goal

pub returns-in-type : goal.returns-in-type
returns-in-type c = search (rules, text_from_reads)

pub returns-in-strike : goal.returns-in-strike
returns-in-strike c = search (rules, text_from_reads)

pub returns-in-take : goal.returns-in-take
returns-in-take c = search (rules, text_from_reads)

pub returns-in-stop : goal.returns-in-stop
returns-in-stop c = search (rules, text_from_reads)

pub returns-in-settle : goal.returns-in-settle
returns-in-settle c = search (rules, text_from_reads)

pub returns-in-show : goal.returns-in-show
returns-in-show c = search (rules, text_from_reads)
