use Rattle.replay.proofs.answer.AnswerDisplay.fmt.Goals as goal

pub returns-in-Opened-clause-writes : goal.returns-in-Opened-clause-writes
returns-in-Opened-clause-writes g c = rw c.in-Opened.is c.write.ensures.writes
