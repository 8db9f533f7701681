-- Worked cases, by the definitions that the contracts cite: two clients at one text, and what comes of it.
use Rattle.std.specs.Prelude.{◌≡◌, ℕ, List, [], ◌∷◌, ◌++◌, Some, None, Option}
use Rattle.operation.specs.declared.operation.Operation.TheVariants.{Noop, Insert, Delete}
use Rattle.operation.specs.Transform.{through}
use Rattle.operation.specs.Laws.{apply_all}
use Rattle.operation.specs.Letters.{◌∈◌}
use Rattle.text.specs.declared.refusal.Refusal.{Refusal}
use Rattle.text.specs.Refusals.{number_of}
use Rattle.text.specs.Texts.{Letter, numbers, refusal}
use Rattle.text.specs.Coded.{coded}
use Rattle.room.specs.Scenes.{Op}

-- what the server makes of a client's operations, one after another, past the entries that the client has not seen
unfoldable pub entered : List Op → List Op → List Op
entered [] es = []
entered (o ∷ os) es = (through coded.late coded.early o es).one ∷ entered os (through coded.late coded.early o es).others

-- what a client with these pending makes of the entries that it sees
unfoldable pub shown : List Op → List Op → List Op
shown [] ps = []
shown (e ∷ es) ps = (through coded.early coded.late e ps).one ∷ shown es (through coded.early coded.late e ps).others

-- the texts after each operation
unfoldable pub texts : List Op → List Letter → List (List ℕ)
texts [] t = []
texts (o ∷ os) t = numbers (coded.apply o t) ∷ texts os (coded.apply o t)

-- Two clients have the text `before`. The server takes all of the one's operations, `first`, and then the other's, `second`.
-- entries: what those have become; along: the server's text after each of all; screen: what the second one's screen shows when it has seen all.
-- Or a client performs an operation that is refused.
pub data Case : Type 0 where
  both : (before : List Letter) (first second entries : List Op) (along : List (List ℕ)) (screen : List ℕ) → Case
  refuses : (before : List Letter) (op : Op) (number : ℕ) → Case

abbrev pub number_in : Option Refusal → Option ℕ
number_in None = None
number_in (Some e) = Some (number_of e)

abbrev pub Holds : Case → Type 0
Holds (both t os qs es ts s) =
    (entered qs os ≡ es) × (texts (os ++ es) t ≡ ts) × (numbers (apply_all coded (qs ++ shown os qs) t) ≡ s)
Holds (refuses t o n) = number_in (refusal 65536 o t) ≡ Some n

-- a is 97, b is 98, and so on
abbrev pub abc : List Letter
abc = record { number = 97; site = 0 } ∷ record { number = 98; site = 0 } ∷ record { number = 99; site = 0 } ∷ []

abbrev pub cases : List Case
cases =
    -- A: both type into an empty text, a and b: ab, whichever is taken first
    both [] (Insert 0 0 97 ∷ []) (Insert 1 0 98 ∷ []) (Insert 1 1 98 ∷ []) ((97 ∷ []) ∷ (97 ∷ 98 ∷ []) ∷ []) (97 ∷ 98 ∷ [])
    ∷ both [] (Insert 1 0 98 ∷ []) (Insert 0 0 97 ∷ []) (Insert 0 0 97 ∷ []) ((98 ∷ []) ∷ (97 ∷ 98 ∷ []) ∷ []) (97 ∷ 98 ∷ [])
    -- B: both strike b: ac, and the second entry is nothing
    ∷ both abc (Delete 0 1 ∷ []) (Delete 1 1 ∷ []) (Noop 1 ∷ []) ((97 ∷ 99 ∷ []) ∷ (97 ∷ 99 ∷ []) ∷ []) (97 ∷ 99 ∷ [])
    ∷ both abc (Delete 1 1 ∷ []) (Delete 0 1 ∷ []) (Noop 0 ∷ []) ((97 ∷ 99 ∷ []) ∷ (97 ∷ 99 ∷ []) ∷ []) (97 ∷ 99 ∷ [])
    -- C: 0 types x before c, 1 strikes a: bxc
    ∷ both abc (Insert 0 2 120 ∷ []) (Delete 1 0 ∷ []) (Delete 1 0 ∷ []) ((97 ∷ 98 ∷ 120 ∷ 99 ∷ []) ∷ (98 ∷ 120 ∷ 99 ∷ []) ∷ []) (98 ∷ 120 ∷ 99 ∷ [])
    ∷ both abc (Delete 1 0 ∷ []) (Insert 0 2 120 ∷ []) (Insert 0 1 120 ∷ []) ((98 ∷ 99 ∷ []) ∷ (98 ∷ 120 ∷ 99 ∷ []) ∷ []) (98 ∷ 120 ∷ 99 ∷ [])
    -- D: 0 types x and y behind a, 1 types z there, and z is taken first: azbc, axzbc, axyzbc
    ∷ both abc (Insert 1 1 122 ∷ []) (Insert 0 1 120 ∷ Insert 0 2 121 ∷ []) (Insert 0 1 120 ∷ Insert 0 2 121 ∷ [])
    ((97 ∷ 122 ∷ 98 ∷ 99 ∷ []) ∷ (97 ∷ 120 ∷ 122 ∷ 98 ∷ 99 ∷ []) ∷ (97 ∷ 120 ∷ 121 ∷ 122 ∷ 98 ∷ 99 ∷ []) ∷ []) (97 ∷ 120 ∷ 121 ∷ 122 ∷ 98 ∷ 99 ∷ [])
    -- E: the same with z taken last: axyzbc again
    ∷ both abc (Insert 0 1 120 ∷ Insert 0 2 121 ∷ []) (Insert 1 1 122 ∷ []) (Insert 1 3 122 ∷ [])
    ((97 ∷ 120 ∷ 98 ∷ 99 ∷ []) ∷ (97 ∷ 120 ∷ 121 ∷ 98 ∷ 99 ∷ []) ∷ (97 ∷ 120 ∷ 121 ∷ 122 ∷ 98 ∷ 99 ∷ []) ∷ []) (97 ∷ 120 ∷ 121 ∷ 122 ∷ 98 ∷ 99 ∷ [])
    -- F: 0 types at 70,000 of a text of three letters: refused, 3
    ∷ refuses abc (Insert 0 70000 120) 3
    ∷ []

abbrev pub CasesHold : Type 0
CasesHold = (c : Case) → c ∈ cases → Holds c
