use Rattle.std.proofs.Common.{◌≡◌, ◌++◌, take}
use Rattle.journal.specs.Disks.{told}
use Rattle.journal.proofs.disk.Disk.note_bytes.Given as goal

abbrev pub invariant-loop-byte : goal.invariant-loop-byte
invariant-loop-byte l =
    ((told l.self.calls.items).bytes ≡ (told l.initial.self.calls.items).bytes ++ take l.byte-index l.bytes)
    × ((told l.self.calls.items).synced ≡ (told l.initial.self.calls.items).synced)
    × ((told l.self.calls.items).ended ≡ (told l.initial.self.calls.items).ended)
