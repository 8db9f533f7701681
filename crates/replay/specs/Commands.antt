-- A line, read as a command.
use Rattle.std.specs.Prelude.{ℕ, ◌+◌, ◌-◌, ◌*◌, ◌^◌, ◌&&◌, List, [], ◌∷◌, length, codes, Some, None, Option, if◌then◌else◌, ◌==◌, nat_lt}
use Rattle.std.specs.Char.{is_ascii_digit}
use Rattle.std.specs.List.{slice_split}
use Rattle.std.specs.Str.{bytes_eq}
use Rattle.operation.specs.declared.operation.Operation.{Operation}
use Rattle.operation.specs.declared.operation.Operation.TheVariants.{Noop, Insert, Delete}
use Rattle.link.specs.Reading.{◌>>=◌}
use Rattle.journal.specs.declared.record.Record.TheVariants.{Entry, Connection}
use Rattle.replay.specs.declared.command.Command.{Command}
use Rattle.replay.specs.declared.command.Command.TheVariants.{Open, Show, Append, Commit, Fill}

-- the number that digits write behind those of n, if they are digits and 32 bits hold it
unfoldable pub number_behind : ℕ → List ℕ → Option ℕ
number_behind n [] = Some n
number_behind n (d ∷ ds) = if is_ascii_digit d && nat_lt (n * 10 + (d - 48)) (2 ^ 32) then number_behind (n * 10 + (d - 48)) ds else None

-- a decimal number
abbrev pub number_of : List ℕ → Option ℕ
number_of w = if length w == 0 then None else number_behind 0 w

-- a site's number, which has one byte
abbrev pub site_below : ℕ → Option ℕ
site_below n = if nat_lt n 256 then Some n else None

abbrev pub site_of : List ℕ → Option ℕ
site_of w = do
  n ← number_of w
  site_below n

-- what a word has behind it, if it is this one
abbrev pub after_word : {A : Type 0} → List ℕ → List ℕ → Option A → Option A
after_word name w x = if bytes_eq w name then x else None

abbrev pub insertion : ℕ → List ℕ → List ℕ → Option (Operation ℕ)
insertion i place letter = do
  p ← number_of place
  x ← number_of letter
  Some (Insert i p x)

abbrev pub deletion : ℕ → List ℕ → Option (Operation ℕ)
deletion i place = do
  p ← number_of place
  Some (Delete i p)

abbrev pub operation_in : ℕ → List (List ℕ) → Option (Operation ℕ)
operation_in i (w ∷ []) = after_word (codes "nothing") w (Some (Noop i))
operation_in i (w ∷ place ∷ []) = after_word (codes "delete") w (deletion i place)
operation_in i (w ∷ place ∷ letter ∷ []) = after_word (codes "insert") w (insertion i place letter)
operation_in i words = None

-- a command that is a word alone
abbrev pub named : List ℕ → Option Command
named w =
    if bytes_eq w (codes "open") then Some Open
    else (if bytes_eq w (codes "show") then Some Show
    else (if bytes_eq w (codes "commit") then Some Commit else None))

abbrev pub connection : List ℕ → Option Command
connection number = do
  n ← number_of number
  Some (Append (Connection n))

abbrev pub filling : List ℕ → List ℕ → Option Command
filling count every = do
  n ← number_of count
  m ← number_of every
  Some (Fill n m)

abbrev pub entry : List ℕ → List ℕ → List (List ℕ) → Option Command
entry place site rest = do
  p ← number_of place
  i ← site_of site
  o ← operation_in i rest
  Some (Append (Entry (record { place = p; op = o })))

abbrev pub command_in : List (List ℕ) → Option Command
command_in (w ∷ []) = named w
command_in (w ∷ number ∷ []) = after_word (codes "connection") w (connection number)
command_in (w ∷ count ∷ every ∷ []) = after_word (codes "fill") w (filling count every)
command_in (w ∷ place ∷ site ∷ rest) = after_word (codes "entry") w (entry place site rest)
command_in [] = None

-- words stand between single spaces
abbrev pub command_of : List ℕ → Option Command
command_of line = command_in (slice_split (λ b. b == 32) line)
