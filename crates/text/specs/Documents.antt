-- A text in memory of its own.
use Rattle.std.specs.Prelude.{◌≡◌, ℕ, ◌≤◌, min, cond, List, length, Some, None, Option, nat_le}
use Rattle.operation.specs.declared.operation.Operation.{Operation}
use Rattle.text.specs.declared.refusal.Refusal.{Refusal}
use Rattle.text.specs.declared.refusal.Refusal.TheVariants.{TextFull}
use Rattle.text.specs.Texts.{Letter, applied, unless}

-- the letters, and how many the memory has room for
pub record TextState : Type 0 where
  pub letters : List Letter
  pub room : ℕ

-- other letters in the same memory
abbrev pub with_letters : List Letter → TextState → TextState
with_letters ls d = record { letters = ls; room = d.room }

-- after an operation, where a text may have up to n letters: as it was, if that is refused
abbrev pub changed : ℕ → Operation ℕ → TextState → TextState
changed n op d = with_letters (applied (min d.room n) op d.letters) d

-- why a text of another document is not taken over in room for n letters
abbrev pub copy_refusal : ℕ → List Letter → Option Refusal
copy_refusal n t = cond (nat_le (length t) n) None (Some TextFull)

abbrev pub copied : ℕ → List Letter → List Letter → List Letter
copied n t was = unless (copy_refusal n t) t was

-- the letters and their sites are in step, and both have the room
pub record Fills (room letters sites letters_memory sites_memory : ℕ) : Type 0 where
  pub level : letters ≡ sites
  pub few : letters ≤ room
  pub letters_room : room ≤ letters_memory
  pub sites_room : room ≤ sites_memory
