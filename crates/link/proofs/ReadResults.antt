-- What a function returns that reads a datagram: what is seen of it by a view is what reading gives, or it is an error.
use Rattle.std.proofs.Common.{◌≡◌, Option, Some, None, Result, Ok, Err, refl, sym, ap, ◌∙◌}
use Rattle.std.specs.Prelude.{option_map, IfOk, IsOkAnd}
use Rattle.std.specs.Option.{ok_or}
use Rattle.link.specs.declared.message.FromClient.{FromClient}
use Rattle.link.specs.declared.message.FromClient.TheVariants as client
use Rattle.link.specs.declared.datagram.Datagram.{Datagram}
use Rattle.link.specs.declared.datagram.Datagram.TheVariants as datagram
use Rattle.link.specs.declared.refusal.Refusal.{Refusal}
use Rattle.link.specs.declared.refusal.Refusal.TheVariants.{Malformed}
use Rattle.link.specs.Messages.{Message, operation, revision, from_client, with_message}
use Rattle.link.proofs.Steps.{Gives}

pub is_found : {X Y : Type 0} (view : X → Y) {P : Y → Type 0} (o : Option X) (read : Option Y) → Gives read P → option_map view o ≡ read → IfOk (ok_or o Malformed) (λ x. P (view x))
is_found view (Some x) read g e = g.at (view x) (sym e)
is_found view None read g e = tt

pub is_read : {X Y : Type 0} (view : X → Y) (o : Option X) (y : Y) → option_map view o ≡ Some y → IsOkAnd (ok_or o Malformed) (λ x. view x ≡ y)
is_read view (Some x) y e = cc
is_read view None y e = absurd cc

-- what a client says, back from the message
to_client : Message → FromClient
to_client (operation r e) = client.Operation r e
to_client (revision r) = client.Revision r
to_client _ = client.New

same_said : (m : FromClient) → to_client (from_client m) ≡ m
unfolding to_client
same_said (client.Operation r e) = refl
same_said (client.Revision r) = refl
same_said client.New = refl

same_sent : (d : Datagram FromClient) → with_message to_client (with_message from_client d) ≡ d
same_sent (datagram.Packet p) = ap (λ (m : FromClient). datagram.Packet (record p { message = m })) (same_said p.message)
same_sent (datagram.Acknowledgement a) = refl

pub is_that_datagram : (r : Result (Datagram FromClient) Refusal) (d : Datagram FromClient) → IsOkAnd r (λ e. with_message from_client e ≡ with_message from_client d) → r ≡ Ok d
is_that_datagram (Ok e) d same = ap Ok (sym (same_sent e) ∙ ap (with_message to_client) same ∙ same_sent d)
is_that_datagram (Err e) d same = absurd same
