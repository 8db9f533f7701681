-- Bytes, and that records are spelled with them.
use Rattle.std.proofs.Common.{◌≡◌, ℕ, zero, suc, ◌<◌, ◌-◌, true, List, [], ◌∷◌, ◌++◌, length, nat_le, nat_lt, refl, arith, inl, inr}
use Rattle.std.specs.List.{All, list_all}
use Rattle.std.proofs.lemmas.Bool.{cases_lt, and_parts, leb-true, ltb-true}
use Rattle.std.proofs.lemmas.List.{get_or_append_left, get_or-append_right}
use Rattle.std.proofs.lemmas.List.Elements.{All-head, All-tail}
use Rattle.operation.specs.declared.operation.Operation.{Operation}
use Rattle.operation.specs.declared.operation.Operation.TheVariants.{Noop, Insert, Delete}
use Rattle.operation.specs.Edits.{site}
use Rattle.link.specs.Letters.{is_number}
use Rattle.link.specs.Messages.{is_fit_operation}
use Rattle.link.specs.Spelling.{word, spelled_code, operation_code}
use Rattle.link.proofs.FiveBytes.{IsBytes, IsBytes-take}
use Rattle.journal.specs.declared.record.Record.{Record}
use Rattle.journal.specs.declared.record.Record.TheVariants.{Entry, Connection}
use Rattle.journal.specs.Records.{spelled, all_spelled, CanBeWritten}
use Rattle.journal.specs.Durability.{FirstPart}
use Rattle.journal.proofs.FirstParts.{first_is_taken}

pub from_test : (bytes : List ℕ) → list_all (λ b. nat_lt b 256) bytes ≡ true → IsBytes bytes
from_test [] e i = omega arith
from_test (b ∷ bytes) e zero = ltb-true b 256 (and_parts _ _ e).0
from_test (b ∷ bytes) e (suc i) = from_test bytes (and_parts (nat_lt b 256) _ e).1 i

pub IsBytes-append : (xs ys : List ℕ) → IsBytes xs → IsBytes ys → IsBytes (xs ++ ys)
IsBytes-append xs ys a b i =
    elim (cases_lt i (length xs)) [
      | inl lt ↦ rw (get_or_append_left xs ys 0 i lt) (a i)
      | inr le ↦ rw (get_or-append_right xs ys (length xs) i 0 refl le) (b (i - length xs))
    ]

pub IsBytes-word : (n : ℕ) → IsBytes (word n)
IsBytes-word n zero = omega arith
IsBytes-word n (suc zero) = omega arith
IsBytes-word n (suc (suc zero)) = omega arith
IsBytes-word n (suc (suc (suc zero))) = omega arith
IsBytes-word n (suc (suc (suc (suc i)))) = omega arith

-- RECORDS

pub site_fit : (o : Operation ℕ) → is_fit_operation o ≡ true → nat_le (site o) 15 ≡ true
site_fit (Noop i) fit = fit
site_fit (Insert i p x) fit = (and_parts (nat_le i 15) (is_number x) fit).0
site_fit (Delete i p) fit = fit

IsBytes-cons : (x : ℕ) (xs : List ℕ) → x < 256 → IsBytes xs → IsBytes (x ∷ xs)
IsBytes-cons x xs small fits zero = small
IsBytes-cons x xs small fits (suc i) = fits i

-- an operation's kind, place and letter
coded : (k p x : ℕ) → k < 256 → IsBytes (k ∷ (word p ++ word x))
coded k p x small = IsBytes-cons k (word p ++ word x) small (IsBytes-append (word p) (word x) (IsBytes-word p) (IsBytes-word x))

operation_coded : (o : Operation ℕ) → IsBytes (spelled_code (operation_code o))
operation_coded (Noop i) = coded 0 0 0 (omega arith)
operation_coded (Insert i p x) = coded 1 p x (omega arith)
operation_coded (Delete i p) = coded 2 p 0 (omega arith)

IsBytes-spelled : (r : Record) → CanBeWritten r → IsBytes (spelled r)
IsBytes-spelled (Entry e) can =
    let rest = site e.op ∷ spelled_code (operation_code e.op) in
    let of_site : site e.op < 256 = omega (arith, leb-true (site e.op) 15 (site_fit e.op can.0)) in
    IsBytes-cons 2 (word e.place ++ rest) (omega arith) (IsBytes-append (word e.place) rest (IsBytes-word e.place) (IsBytes-cons (site e.op) (spelled_code (operation_code e.op)) of_site (operation_coded e.op)))
IsBytes-spelled (Connection c) can = IsBytes-cons 6 (word c) (omega arith) (IsBytes-word c)

pub IsBytes-all_spelled : (rs : List Record) → All CanBeWritten rs → IsBytes (all_spelled rs)
unfolding all_spelled
IsBytes-all_spelled [] can = λ i. omega arith
IsBytes-all_spelled (r ∷ rs) can = IsBytes-append (spelled r) (all_spelled rs) (IsBytes-spelled r (All-head CanBeWritten r rs can)) (IsBytes-all_spelled rs (All-tail CanBeWritten r rs can))

pub IsBytes-first : {xs ys : List ℕ} → FirstPart xs ys → IsBytes ys → IsBytes xs
IsBytes-first {xs} {ys} first fits = let taken = IsBytes-take (length xs) ys fits in rw (first_is_taken first) at taken
