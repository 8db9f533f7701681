-- The pending operations, which are kept in three arrays, as one list.
use Rattle.std.specs.Prelude.{ℕ, List, [], ◌∷◌, take, Option, Some, None}
use Rattle.std.specs.Global.{Box}
use Rattle.operation.specs.declared.operation.Operation.{Operation}
use Rattle.operation.specs.declared.operation.Operation.TheVariants.{Noop, Insert, Delete}
use Rattle.client.specs.declared.kind.Kind.{Kind}
use Rattle.client.specs.declared.kind.Kind.TheVariants as kind
use Rattle.client.specs.declared.pending.Slot.{Slot}
use Rattle.client.specs.declared.pending.Pending.{Pending}

-- the operation of site s that one place of the arrays stands for
abbrev pub operation : ℕ → Kind → ℕ → ℕ → Operation ℕ
operation s kind.Noop p x = Noop s
operation s kind.Insert p x = Insert s p x
operation s kind.Delete p x = Delete s p

abbrev pub operation_of : ℕ → Slot → Operation ℕ
operation_of s v = operation s v.kind v.place v.letter

unfoldable pub joined : ℕ → List Kind → List ℕ → List ℕ → List (Operation ℕ)
joined s [] ps xs = []
joined s (k ∷ ks) [] xs = []
joined s (k ∷ ks) (p ∷ ps) [] = []
joined s (k ∷ ks) (p ∷ ps) (x ∷ xs) = operation s k p x ∷ joined s ks ps xs

abbrev pub pendings : Pending → List (Operation ℕ)
pendings w = take w.count (joined w.site w.kinds w.places w.letters)

-- what is pending, and nothing where there is no list
abbrev pub pending_in : Option (Box Pending) → List (Operation ℕ)
pending_in None = []
pending_in (Some b) = pendings b.value
