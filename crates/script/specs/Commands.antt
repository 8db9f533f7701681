-- A line of a script, read as a command.
use Rattle.std.specs.Prelude.{ℕ, cond, List, [], ◌∷◌, Some, None, Ok, Err, codes, Option, Result, nat_eq, nat_lt}
use Rattle.std.specs.List.{starts_with}
use Rattle.std.specs.Str.{bytes_eq}
use Rattle.std.specs.Option.{ok_or, option_or}
use Rattle.script.specs.declared.command.Verb.{Verb}
use Rattle.script.specs.declared.command.Verb.TheVariants as verb
use Rattle.script.specs.declared.command.Command.{Command}
use Rattle.script.specs.declared.command.Command.TheVariants as command
use Rattle.script.specs.declared.command.Fault.{Fault}
use Rattle.script.specs.declared.command.Fault.TheVariants.{UnknownCommand, Words, NoWriter, BadPlace, BadLetter}
use Rattle.script.specs.Words.{words_of}
use Rattle.script.specs.Numbers.{decimal_of, character_of}

-- what is printed of a fault
abbrev pub message_of : Fault → List ℕ
message_of UnknownCommand = codes "no such command"
message_of (Words verb.Type) = codes "type wants a writer, a place and a letter"
message_of (Words verb.Strike) = codes "strike wants a writer and a place"
message_of (Words verb.Take) = codes "take wants a writer"
message_of (Words verb.See) = codes "see wants a writer"
message_of (Words verb.New) = codes "new wants a writer"
message_of (Words verb.Stop) = codes "stop wants no word after it"
message_of (Words verb.Settle) = codes "settle wants no word after it"
message_of (Words verb.Show) = codes "show wants no word after it"
message_of NoWriter = codes "no such writer"
message_of BadPlace = codes "the place is no decimal number"
message_of BadLetter = codes "the letter is neither a decimal number nor one character"

-- the verb that a list of names has for a word
abbrev pub named : List (List ℕ × Verb) → List ℕ → Result Verb Fault
named [] w = Err UnknownCommand
named ((name, v) ∷ more) w = cond (bytes_eq w name) (Ok v) (named more w)

-- the verb of a command's first word
abbrev pub verb_of : List ℕ → Result Verb Fault
verb_of = named (
    (codes "type", verb.Type) ∷ (codes "strike", verb.Strike) ∷ (codes "take", verb.Take) ∷ (codes "see", verb.See)
    ∷ (codes "new", verb.New) ∷ (codes "stop", verb.Stop) ∷ (codes "settle", verb.Settle) ∷ (codes "show", verb.Show) ∷ [])

-- as `?`: the first value, and with it the next; or the first fault
infixl 10 ◌>>=◌
abbrev pub ◌>>=◌ : {A B : Type 0} → Result A Fault → (A → Result B Fault) → Result B Fault
Ok x >>= f = f x
Err e >>= f = Err e

-- a writer's number: 0 to 3
abbrev pub present : Option ℕ → Result ℕ Fault
present None = Err NoWriter
present (Some n) = cond (nat_lt n 4) (Ok n) (Err NoWriter)

-- a writer's word
abbrev pub writer_of : List ℕ → Result ℕ Fault
writer_of w = present (decimal_of w)

-- a place's word
abbrev pub place_of : List ℕ → Result ℕ Fault
place_of w = ok_or (decimal_of w) BadPlace

-- a letter's word: its number, or the letter itself
abbrev pub letter_of : List ℕ → Result ℕ Fault
letter_of w = ok_or (option_or (decimal_of w) (character_of w)) BadLetter

-- what a verb asks to be read behind it: so many words, and no more
abbrev pub read_as : Verb → List (List ℕ) → Result Command Fault
read_as verb.Type (writer ∷ place ∷ letter ∷ []) = do
  w ← writer_of writer
  p ← place_of place
  x ← letter_of letter
  Ok (command.Type w p x)
read_as verb.Strike (writer ∷ place ∷ []) = do
  w ← writer_of writer
  p ← place_of place
  Ok (command.Strike w p)
read_as verb.Take (writer ∷ []) = do
  w ← writer_of writer
  Ok (command.Take w)
read_as verb.See (writer ∷ []) = do
  w ← writer_of writer
  Ok (command.See w)
read_as verb.New (writer ∷ []) = do
  w ← writer_of writer
  Ok (command.New w)
read_as verb.Stop [] = Ok command.Stop
read_as verb.Settle [] = Ok command.Settle
read_as verb.Show [] = Ok command.Show
read_as v words = Err (Words v)

-- the command in the words of a line: no word asks for nothing, and neither does a first word that begins with #
abbrev pub command_in : List (List ℕ) → Result (Option Command) Fault
command_in [] = Ok None
command_in (first ∷ rest) = cond (starts_with nat_eq first (codes "#")) (Ok None) (do
  v ← verb_of first
  c ← read_as v rest
  Ok (Some c))

-- the command on a line; none on a line that is empty or a comment
abbrev pub command_of : List ℕ → Result (Option Command) Fault
command_of l = command_in (words_of l)
