-- The words of a line of bytes.
use Rattle.std.specs.Prelude.{ℕ, Bool, not, ◌||◌, List, length, filter, ◌==◌}
use Rattle.std.specs.List.{slice_split}

-- a space, a tab or a carriage return
abbrev pub is_blank : ℕ → Bool
is_blank b = b == 32 || (b == 9 || b == 13)

-- what stands between blanks and is not empty
unfoldable pub words_of : List ℕ → List (List ℕ)
words_of l = filter (λ w. not (length w == 0)) (slice_split is_blank l)
