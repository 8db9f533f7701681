use Rattle.std.proofs.Common.{◌≡◌, ◌-◌, drop}
use Rattle.link.proofs.outbox.Outbox.acknowledge.Given as goal

abbrev pub invariant-loop : goal.invariant-loop
invariant-loop g l = record {
  left : l.self-inside.waiting.items ≡ drop (l.counter - l.was) l.initial.self-inside.waiting.items;
  window : l.self-inside.window ≡ l.initial.self-inside.window;
}
