-- Lists of entries of the history, and the operations in them.
use Rattle.std.specs.Prelude.{List, [], ◌∷◌, map}
use Rattle.operation.specs.declared.entry.Entry.{Entry}

abbrev pub operations : {O : Type 0} → List (Entry O) → List O
operations {O} es = map (λ (e : Entry O). e.op) es

-- the same places with other operations
unfoldable pub replaced : {O : Type 0} → List (Entry O) → List O → List (Entry O)
replaced [] os = []
replaced (e ∷ es) [] = []
replaced (e ∷ es) (o ∷ os) = record { place = e.place; op = o } ∷ replaced es os
