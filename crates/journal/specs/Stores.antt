-- A file of bytes that is read from its start and grows at its end.
use Rattle.std.specs.Prelude.{ℕ, List, min, max, Option, option_map}

-- after a call that leaves these bytes: they are all, where that was known before
abbrev pub now_all : List ℕ → Option (List ℕ) → Option (List ℕ)
now_all bytes all = option_map (λ was. bytes) all

-- how many of n bytes a crash leaves that keeps k, where so many are synced
abbrev pub kept : ℕ → ℕ → ℕ → ℕ
kept k synced n = max synced (min k n)
