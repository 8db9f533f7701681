-- No spelling goes on behind another: how long it is stands at its front.
use Rattle.std.proofs.Common.{◌≡◌, ℕ, ◌+◌, ◌*◌, ◌<◌, ◌≤◌, true, cond, List, [], ◌∷◌, ◌++◌, length, get_or, take, drop, Result, Ok, Err, nat_le, ◌==◌, refl, sym, ap, ◌∙◌, arith}
use Rattle.std.specs.Prelude.{IfOk, IsErr}
use Rattle.std.specs.Int.{w32, from_be_bytes}
use Rattle.std.proofs.lemmas.Bool.{leb-true, and_parts}
use Rattle.std.proofs.lemmas.List.{append-nil, nil_from_length, length-append, length-drop, take-append-drop}
use Rattle.std.proofs.lemmas.Nat.{from_be_bytes-to_be_bytes_4}
use Rattle.link.specs.declared.datagram.Datagram.{Datagram}
use Rattle.link.specs.declared.datagram.Datagram.TheVariants as datagram
use Rattle.link.specs.declared.message.Edit.TheVariants as edit
use Rattle.link.specs.declared.refusal.Refusal.{Refusal}
use Rattle.link.specs.Messages.{Message, operation, revision, new, entry, text, is_fit, Sendable}
use Rattle.link.specs.Spelling.{word, spelling}
use Rattle.link.proofs.FiveBytes.{length-spelled_letters}
use Rattle.link.proofs.Datagrams.{Sent}

-- by the first byte of a message, and the count of a text's letters
abbrev message_length : List ℕ → ℕ
message_length bytes =
    cond (get_or bytes 0 0 == 1) 14
    (cond (get_or bytes 0 0 == 2) 15
    (cond (get_or bytes 0 0 == 3) 5
    (cond (get_or bytes 0 0 == 4) 1
    (18 + from_be_bytes w32 (take 4 (drop 14 bytes)) * 5))))

abbrev length_said : List ℕ → ℕ
length_said bytes = cond (get_or bytes 0 0 == 85) 11 (11 + message_length (drop 9 bytes))

packet-length_said : (c n : ℕ) (m : Message) (more : List ℕ) → is_fit c m ≡ true →
    let p : Datagram Message = datagram.Packet (record { connection = c; number = n; message = m }) in length_said (spelling p ++ more) ≡ length (spelling p)
packet-length_said c n (operation r (edit.Insert p x)) more fit = refl
packet-length_said c n (operation r (edit.Delete p)) more fit = refl
packet-length_said c n (revision r) more fit = refl
packet-length_said c n new more fit = refl
packet-length_said c n (entry e) more fit = refl
packet-length_said c n (text t) more fit =
    let few : length t.letters ≤ 65536 = leb-true _ 65536 (and_parts _ _ (and_parts (nat_le t.site 15) _ fit).1).0 in
    let count : from_be_bytes w32 (word (length t.letters)) ≡ length t.letters = from_be_bytes-to_be_bytes_4 (length t.letters) (omega arith) in
    rw count (simp (length-append, length-spelled_letters) (omega arith))

length-said : (d : Datagram Message) (more : List ℕ) → Sendable d → length_said (spelling d ++ more) ≡ length (spelling d)
length-said (datagram.Packet p) more s = packet-length_said p.connection p.number p.message more s.2
length-said (datagram.Acknowledgement a) more s = refl

pub nothing_behind : (d e : Datagram Message) (rest : List ℕ) → Sendable d → Sendable e → spelling d ++ rest ≡ spelling e → rest ≡ []
nothing_behind d e rest s t same =
    let one = length-said d rest s in
    let two : length_said (spelling e) ≡ length (spelling e) = ap length_said (sym (append-nil (spelling e))) ∙ length-said e [] t in
    let three : length_said (spelling d ++ rest) ≡ length_said (spelling e) = ap length_said same in
    nil_from_length rest (omega (arith, length-append (spelling d) rest, ap length same))

-- what reads only spellings refuses one that is cut, and one with bytes behind it

pub cut_is_refused : {X : Type 0} (view : X → Datagram Message) (bytes : List ℕ) (r : Result X Refusal) → IfOk r (λ x. Sent bytes (view x))
    → (d : Datagram Message) (n : ℕ) → Sendable d → n < length (spelling d) → bytes ≡ take n (spelling d) → IsErr r
cut_is_refused view bytes (Err e) found d n s lt is = refl
cut_is_refused view bytes (Ok x) found d n s lt is =
    let behind = drop n (spelling d) in
    let whole : spelling (view x) ++ behind ≡ spelling d = ap (λ (front : List ℕ). front ++ behind) (sym found.1 ∙ is) ∙ take-append-drop n (spelling d) in
    absurd (omega (arith, length-drop n (spelling d), ap length (nothing_behind (view x) d behind found.0 s whole)))

pub longer_is_refused : {X : Type 0} (view : X → Datagram Message) (bytes : List ℕ) (r : Result X Refusal) → IfOk r (λ x. Sent bytes (view x))
    → (d : Datagram Message) (b : ℕ) (more : List ℕ) → Sendable d → bytes ≡ spelling d ++ b ∷ more → IsErr r
longer_is_refused view bytes (Err e) found d b more s is = refl
longer_is_refused view bytes (Ok x) found d b more s is = let none = nothing_behind d (view x) (b ∷ more) s found.0 (sym is ∙ found.1) in absurd cc
