-- Messages from a client to the server.
use Rattle.std.specs.Prelude.{ℕ, suc, Bool, true, false, List, [], ◌∷◌}
use Rattle.network.specs.declared.message.Message.{Message}
use Rattle.network.specs.declared.message.Message.TheVariants as message

abbrev pub is_operation : {O : Type 0} → Message O → Bool
is_operation (message.Operation m) = true
is_operation (message.Revision r) = false

-- how many operations are among them
unfoldable pub operations_in : {O : Type 0} → List (Message O) → ℕ
operations_in [] = 0
operations_in (message.Operation m ∷ ms) = suc (operations_in ms)
operations_in (message.Revision r ∷ ms) = operations_in ms
