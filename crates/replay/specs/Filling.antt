-- The entries with which a journal is filled.
use Rattle.std.specs.Prelude.{ℕ, ◌+◌, ◌*◌, ◌%◌, if◌then◌else◌, nat_lt}
use Rattle.operation.specs.declared.operation.Operation.{Operation}
use Rattle.operation.specs.declared.operation.Operation.TheVariants.{Insert, Delete}
use Rattle.operation.specs.declared.entry.Entry.{Entry}

-- the one at place i, where the text has n letters: letters come until there are 1,000, and then one goes and one comes in turn
abbrev pub filler : ℕ → ℕ → Entry (Operation ℕ)
filler i n = record { place = i; op = if nat_lt n 1000 then Insert (i % 16) ((i * 7919) % (n + 1)) (97 + i % 26) else Delete (i % 16) ((i * 7919) % n) }
