-- A datagram that is read is spelled so and can be sent, and what can be sent is read again.
use Rattle.std.proofs.Common.{◌≡◌, ℕ, ◌+◌, ◌-◌, ◌%◌, ◌^◌, ◌<◌, ◌≤◌, List, [], ◌++◌, length, take, drop, sum, Option, Some, ◌==◌, refl, sym, ap, ◌∙◌, arith}
use Rattle.std.specs.Int.{w16, to_be_bytes, from_be_bytes}
use Rattle.std.proofs.lemmas.Bool.{ltb-false, le-ltb, eqb-true, eq-eqb}
use Rattle.std.proofs.lemmas.List.{take-append-drop, take_at, drop_at, length-append, length-drop}
use Rattle.std.proofs.lemmas.Nat.{be_bytes_2, from_be_bytes-to_be_bytes_2}
use Rattle.link.specs.declared.message.FromClient.{FromClient}
use Rattle.link.specs.declared.datagram.Datagram.{Datagram}
use Rattle.link.specs.declared.datagram.Datagram.TheVariants as datagram
use Rattle.link.specs.Messages.{Message, from_client, with_message, Sendable, ByServer}
use Rattle.link.specs.Spelling.{word, spelled, headed, sealed, enclosed, spelling}
use Rattle.link.specs.Reading.{client_message, server_message, message_at, byte_at, unsealed, opened, with_read, from_client_at, from_server_at}
use Rattle.link.proofs.FiveBytes.{IsBytes, IsBytes-take, IsBytes-drop}
use Rattle.link.proofs.Steps.{Gives, gives, nothing, then, by_test, if_passed}
use Rattle.link.proofs.FieldLaws.{byte_takes, word_takes, word_again, ended_takes}
use Rattle.link.proofs.Messages.{Says, client_takes, server_takes, client_again, server_again}

-- THE SUM

unsealed_takes : (bytes : List ℕ) → IsBytes bytes → Gives (unsealed bytes) (λ body. (bytes ≡ sealed body) × IsBytes body)
unfolding unsealed
unsealed_takes bytes fits =
    let at = length bytes - 2 in
    by_test _ _ _ (λ _. nothing) (λ e. if_passed (from_be_bytes w16 (drop at bytes) == sum (take at bytes) % 65536) _ (λ same.
    let long : 2 ≤ length bytes = ltb-false _ _ e in
    let end : to_be_bytes w16 (sum (take at bytes) % 65536) ≡ drop at bytes =
    be_bytes_2 (drop at bytes) _ (omega (arith, length-drop at bytes)) (IsBytes-drop at bytes fits) (sym (eqb-true _ _ same)) in
    gives (take at bytes) (sym (ap (λ (x : List ℕ). take at bytes ++ x) end ∙ take-append-drop at bytes), IsBytes-take at bytes fits)))

unsealed_again : (body : List ℕ) → unsealed (sealed body) ≡ Some body
unfolding unsealed
unsealed_again body =
    let cut = sum body % 65536 in
    let end = to_be_bytes w16 cut in
    let long : length (sealed body) ≡ length body + 2 = length-append body end in
    let at : length body + 2 - 2 ≡ length body = omega arith in
    rw (
      long,
      le-ltb (length body + 2) 2 (omega arith),
      at,
      take_at body end (length body) refl,
      drop_at body end (length body) refl,
      from_be_bytes-to_be_bytes_2 cut (omega arith),
      eq-eqb cut cut refl,
    ) refl

-- THE HEAD

abbrev NumbersInWords : {M : Type 0} → Datagram M → Type 0
NumbersInWords (datagram.Packet p) = (p.connection < 2 ^ 32) × (p.number < 2 ^ 32)
NumbersInWords (datagram.Acknowledgement a) = (a.connection < 2 ^ 32) × (a.last < 2 ^ 32)

abbrev HoldsBytes : Datagram (List ℕ) → Type 0
HoldsBytes (datagram.Packet p) = IsBytes p.message
HoldsBytes (datagram.Acknowledgement a) = Unit {0}

opened_takes : (bytes : List ℕ) → IsBytes bytes → Gives (opened bytes) (λ d. (bytes ≡ enclosed d) × NumbersInWords d × HoldsBytes d)
unfolding opened
opened_takes bytes fits =
    then _ _ (unsealed_takes bytes fits) (λ body s. then _ _ (byte_takes body s.1) (λ k t. then _ _ (word_takes k.1 t.1) (λ c u. then _ _ (word_takes c.1 u.2) (λ n v.
    by_test (k.0 == 84) _ _ (λ e. let is : k.0 ≡ 84 = eqb-true k.0 84 e in gives (datagram.Packet (record { connection = c.0; number = n.0; message = n.1 })) (cc, (u.1, v.1), v.2))
    (λ _. if_passed (k.0 == 85) _ (λ e. ended_takes (datagram.Acknowledgement (record { connection = c.0; last = n.0 })) n.1 (λ none. let is : k.0 ≡ 85 = eqb-true k.0 85 e in (cc, (u.1, v.1), tt))))))))

opened_again : (d : Datagram (List ℕ)) → NumbersInWords d → opened (enclosed d) ≡ Some d
unfolding opened byte_at
opened_again (datagram.Packet p) small = rw (unsealed_again (headed 84 p.connection p.number p.message), word_again p.connection (word p.number ++ p.message) small.0, word_again p.number p.message small.1) refl
opened_again (datagram.Acknowledgement a) small = rw (unsealed_again (headed 85 a.connection a.last []), word_again a.connection (word a.last ++ []) small.0, word_again a.last [] small.1) refl

-- THE MESSAGE IN IT

-- the bytes are those of the datagram, and it can be sent
abbrev pub Sent : List ℕ → Datagram Message → Type 0
Sent bytes d = Sendable d × (bytes ≡ spelling d)

message_takes : (read : ℕ → List ℕ → Option Message) → ((c : ℕ) (bytes : List ℕ) → IsBytes bytes → Gives (read c bytes) (Says c bytes))
    → (bytes : List ℕ) (d : Datagram (List ℕ)) → bytes ≡ enclosed d → NumbersInWords d → HoldsBytes d → Gives (with_read read d) (Sent bytes)
message_takes read reads bytes (datagram.Packet p) same small fits =
    then _ _ (reads p.connection p.message fits) (λ m t. let said = t.spelled_so in gives _ ((small.0, small.1, t.fit, t.in_words), cc))
message_takes read reads bytes (datagram.Acknowledgement a) same small fits = gives _ (small, same)

pub from_client_takes : (bytes : List ℕ) → IsBytes bytes → Gives (from_client_at bytes) (Sent bytes)
unfolding from_client_at
from_client_takes bytes fits = then _ _ (opened_takes bytes fits) (λ d t. message_takes (λ c. message_at (client_message c)) client_takes bytes d t.0 t.1 t.2)

pub from_server_takes : (bytes : List ℕ) → IsBytes bytes → Gives (from_server_at bytes) (Sent bytes)
unfolding from_server_at
from_server_takes bytes fits = then _ _ (opened_takes bytes fits) (λ d t. message_takes (λ c. message_at (server_message c)) server_takes bytes d t.0 t.1 t.2)

pub from_client_again : (d : Datagram FromClient) → Sendable (with_message from_client d) → from_client_at (spelling (with_message from_client d)) ≡ Some (with_message from_client d)
unfolding from_client_at
from_client_again (datagram.Packet p) s =
    rw (opened_again (datagram.Packet (record { connection = p.connection; number = p.number; message = spelled p.connection (from_client p.message) })) (s.0, s.1), client_again p.connection p.message s.2 s.3) refl
from_client_again (datagram.Acknowledgement a) s = rw (opened_again (datagram.Acknowledgement a) s) refl

pub from_server_again : (d : Datagram Message) → ByServer d → Sendable d → from_server_at (spelling d) ≡ Some d
unfolding from_server_at
from_server_again (datagram.Packet p) by s =
    rw (opened_again (datagram.Packet (record { connection = p.connection; number = p.number; message = spelled p.connection p.message })) (s.0, s.1), server_again p.connection p.message s.0 by s.2 s.3) refl
from_server_again (datagram.Acknowledgement a) by s = rw (opened_again (datagram.Acknowledgement a) s) refl
