use Rattle.std.proofs.Common.{◌≡◌, refl, ◌∙◌}
use Rattle.server.specs.Servers.{state_of}
use Rattle.journal.specs.Durability.{born}
use Rattle.room.proofs.Kept.{started_empty, follows_started}
use Rattle.room.proofs.host.Host.new.Goals as goal

pub invariant_of-result : goal.invariant_of-result
invariant_of-result c =
    let made = c.in_ok-server.ensures.server in
    let empty : c.new-journal.result ≡ born.journal = c.new-journal.ensures ∙ rw (c.new.ensures.bytes, c.new.ensures.read, c.new.ensures.synced) refl in
    record { space = made.0; kept = follows_started c.new-journal.result c.start.new.journal empty made.1.0 made.1.1 (state_of c.in_ok-server.server) made.1.2 }

pub returns-clause-server : goal.returns-clause-server
returns-clause-server c =
    let made = c.in_ok-server.ensures.server in
    let empty : c.new-journal.result ≡ born.journal = c.new-journal.ensures ∙ rw (c.new.ensures.bytes, c.new.ensures.read, c.new.ensures.synced) refl in
    started_empty c.new-journal.result c.start.new.journal empty made.1.0 made.1.1 (state_of c.in_ok-server.server) made.1.2
