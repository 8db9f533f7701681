-- The numbers of the refusals.
use Rattle.std.specs.Prelude.{ℕ}
use Rattle.client.specs.Refusals.{number_of as client_number}
use Rattle.server.specs.Refusals.{number_of as server_number}
use Rattle.room.specs.declared.refusal.Refusal.{Refusal}
use Rattle.room.specs.declared.refusal.Refusal.TheVariants.{Client, Server}

abbrev pub number_of : Refusal → ℕ
number_of (Client e) = client_number e
number_of (Server e) = server_number e
