use Rattle.link.proofs.TextLetters.{is_fit-sheet_of}
use Rattle.link.proofs.writing.can_be_said_by_server.Goals as goal

pub returns-in-Text : goal.returns-in-Text
returns-in-Text c = rw c.in-Text.is (is_fit-sheet_of c.in-Text.snapshot)
