use Rattle.std.proofs.Common.{◌≡◌, true, is_some, sym, ◌∙◌}
use Rattle.server.specs.Servers.{state_of}
use Rattle.room.specs.Scenes.{hosted}
use Rattle.room.proofs.Kept.{crash_opens, follows_again, resumed_again, follows_resumed}
use Rattle.room.proofs.host.Host.crash.Goals as goal

pub start-requires : goal.start-requires
start-requires c =
    let h = c.args.self.now in
    let open_before : is_some h.journal.contents ≡ true = sym c.is_open.ensures ∙ c.if-not-is_open.false in
    λ now n why. crash_opens h.journal (hosted h) h.kept open_before c.crash.new.self now n why c.crash.ensures

pub invariant_of-self : goal.invariant_of-self
invariant_of-self c =
    let h = c.args.self.now in
    let open_before : is_some h.journal.contents ≡ true = sym c.is_open.ensures ∙ c.if-not-is_open.false in
    record { space = h.space; kept = follows_again h.journal (hosted h) h.kept open_before c.crash.new.self c.start.new.journal c.crash.ensures c.start.ensures.opened }

pub invariant_of-self-2 : goal.invariant_of-self-2
invariant_of-self-2 c =
    let h = c.args.self.now in
    let open_before : is_some h.journal.contents ≡ true = sym c.is_open.ensures ∙ c.if-not-is_open.false in
    let made = c.in_ok-self.ensures.server in
    record { space = made.0; kept = follows_resumed h.journal (hosted h) h.kept open_before c.crash.new.self c.start.new.journal c.crash.ensures made.1.0 made.1.1 (state_of c.in_ok-self.field-0) made.1.2 }

pub returns-clause-server : goal.returns-clause-server
returns-clause-server c =
    let h = c.args.self.now in
    let open_before : is_some h.journal.contents ≡ true = sym c.is_open.ensures ∙ c.if-not-is_open.false in
    let made = c.in_ok-self.ensures.server in
    made.1.2 ∙ resumed_again h.journal (hosted h) h.kept open_before c.crash.new.self c.start.new.journal c.crash.ensures made.1.0 made.1.1
