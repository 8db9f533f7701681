-- WHAT IS SAID OF A REAL FILE: what its calls have told, one after another. That the file holds just this is trusted.
use Rattle.std.specs.Prelude.{ℕ, Bool, false, List, [], ◌∷◌, ◌++◌, length, take, min, if◌then◌else◌, ◌==◌}

-- the bytes that were read and put behind, how many of the file's bytes are synced, and whether the last reading found none
pub record Told : Type 0 where
  pub bytes : List ℕ
  pub synced : ℕ
  pub ended : Bool

abbrev pub nothing_told : Told
nothing_told = record { bytes = []; synced = 0; ended = false }

-- a call, by its kind and a number: 0 reads from the start again, 1 has this byte, 2 cuts back to so many, 3 syncs, another has read so many
abbrev pub told_by : ℕ × ℕ → Told → Told
told_by call t =
    if call.0 == 0 then record { bytes = []; synced = t.synced; ended = false }
    else (if call.0 == 1 then record { bytes = t.bytes ++ call.1 ∷ []; synced = t.synced; ended = t.ended }
    else (if call.0 == 2 then record { bytes = take call.1 t.bytes; synced = min call.1 t.synced; ended = t.ended }
    else (if call.0 == 3 then record { bytes = t.bytes; synced = length t.bytes; ended = t.ended }
    else record { bytes = t.bytes; synced = t.synced; ended = call.1 == 0 })))

unfoldable pub told_from : List (ℕ × ℕ) → Told → Told
told_from [] t = t
told_from (call ∷ calls) t = told_from calls (told_by call t)

abbrev pub told : List (ℕ × ℕ) → Told
told calls = told_from calls nothing_told
