-- The lines with which commands are answered.
use Rattle.std.specs.Prelude.{ℕ, List, ◌++◌, codes}
use Rattle.std.specs.Fmt.{decimal}
use Rattle.journal.specs.Refusals.{number_of}
use Rattle.journal.specs.declared.error.JournalError.{JournalError}
use Rattle.journal.specs.declared.error.JournalError.TheVariants as journal
use Rattle.journal.specs.declared.error.OpenError.{OpenError}
use Rattle.journal.specs.declared.error.OpenError.TheVariants as opening
use Rattle.replay.specs.declared.answer.Answer.{Answer}
use Rattle.replay.specs.declared.answer.Answer.TheVariants.{Opened, Damaged, Written, Committed, Filled, Refused, NotOpen, Failed}

abbrev pub line_of : Answer → List ℕ
line_of (Opened n m c) = codes "opened: " ++ (decimal n ++ (codes " entries, " ++ (decimal m ++ (codes " letters, connection " ++ decimal c))))
line_of (Damaged at why) = codes "damaged at " ++ decimal at ++ codes ": refused " ++ decimal (number_of why)
line_of Written = codes "written"
line_of Committed = codes "committed"
line_of Filled = codes "filled"
line_of (Refused why) = codes "refused " ++ decimal (number_of why)
line_of NotOpen = codes "not open"
line_of Failed = codes "failed"

-- what is answered where a call fails
abbrev pub answer_of : JournalError → Answer
answer_of journal.NotOpen = NotOpen
answer_of (journal.Refused why) = Refused why
answer_of (journal.Store e) = Failed

-- and where opening does
abbrev pub answer_of_opening : OpenError → Answer
answer_of_opening (opening.Damaged at why) = Damaged at why
answer_of_opening (opening.Store e) = Failed
answer_of_opening opening.OutOfMemory = Failed
