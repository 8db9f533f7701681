-- A text, and what applying an operation to it does or why it is refused.
use Rattle.std.specs.Prelude.{ℕ, cond, ◌&&◌, List, [], ◌∷◌, map, length, Some, None, Ok, Err, Option, Result, nat_le, nat_lt}
use Rattle.operation.specs.declared.operation.Operation.{Operation}
use Rattle.operation.specs.declared.operation.Operation.TheVariants.{Noop, Insert, Delete}
use Rattle.operation.specs.Edits.{apply}
use Rattle.text.specs.declared.refusal.Refusal.{Refusal}
use Rattle.text.specs.declared.refusal.Refusal.TheVariants.{BadLetter, BeyondText, TextFull}

-- a letter with the site that typed it
pub record Letter : Type 0 where
  pub number : ℕ
  pub site : ℕ

-- letters and their sites, in step; what has no partner is left out
unfoldable pub paired : List ℕ → List ℕ → List Letter
paired [] ss = []
paired (x ∷ xs) [] = []
paired (x ∷ xs) (s ∷ ss) = record { number = x; site = s } ∷ paired xs ss

-- the numbers of letters, and their sites
abbrev pub numbers : List Letter → List ℕ
numbers t = map (λ (l : Letter). l.number) t

abbrev pub authors : List Letter → List ℕ
authors t = map (λ (l : Letter). l.site) t

-- an operation whose letter is of its site
abbrev pub signed : Operation ℕ → Operation Letter
signed (Noop i) = Noop i
signed (Insert i p x) = Insert i p (record { number = x; site = i })
signed (Delete i p) = Delete i p

-- why an operation is refused in a text of m letters with room for n, the lowest number first
abbrev pub refusal_at : ℕ → ℕ → Operation ℕ → Option Refusal
refusal_at n m (Noop i) = None
refusal_at n m (Insert i p x) = cond (nat_le 1 x && nat_le x 1114111) (cond (nat_le p m) (cond (nat_lt m n) None (Some TextFull)) (Some BeyondText)) (Some BadLetter)
refusal_at n m (Delete i p) = cond (nat_lt p m) None (Some BeyondText)

abbrev pub refusal : ℕ → Operation ℕ → List Letter → Option Refusal
refusal n op t = refusal_at n (length t) op

abbrev pub refused : {A : Type 0} → Result A Refusal → Option Refusal
refused (Ok x) = None
refused (Err e) = Some e

-- the text after an operation: as it was, if that is refused
abbrev pub unless : {A : Type 0} → Option Refusal → A → A → A
unless None x y = x
unless (Some r) x y = y

abbrev pub applied : ℕ → Operation ℕ → List Letter → List Letter
applied n op t = unless (refusal n op t) (apply (signed op) t) t
