use Rattle.link.proofs.Feeding.{feed_keeps}
use Rattle.link.proofs.Posting.{outbox_keeps}
use Rattle.link.proofs.theorems.messages_last.Goals as goal

pub returns : goal.returns
returns g c = record { client = outbox_keeps; server = feed_keeps }
