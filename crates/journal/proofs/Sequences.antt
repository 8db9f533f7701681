-- Records one after another: what they make, their bytes, and that no others have these.
use Rattle.std.proofs.Common.{◌≡◌, ℕ, ◌≤◌, List, [], ◌∷◌, ◌++◌, length, Option, Some, None, nat_le, nat_lt, refl, sym, ap, ◌∙◌, arith}
use Rattle.std.specs.List.{All}
use Rattle.std.proofs.lemmas.Bool.{leb-true, ltb-true}
use Rattle.std.proofs.lemmas.List.{append_assoc, append_cancel_left, length-append}
use Rattle.std.proofs.lemmas.List.Elements.{All-nil, All-cons, All-head, All-tail}
use Rattle.std.proofs.lemmas.Option.{same_Some}
use Rattle.operation.specs.declared.operation.Operation.{Operation}
use Rattle.operation.specs.declared.operation.Operation.TheVariants.{Noop, Insert, Delete}
use Rattle.text.specs.declared.refusal.Refusal.TheVariants as text
use Rattle.text.specs.Texts.{refusal_at}
use Rattle.link.specs.Letters.{is_number}
use Rattle.link.specs.Messages.{OperationInWords}
use Rattle.link.specs.Reading.{◌>>=◌}
use Rattle.journal.specs.declared.record.Record.{Record}
use Rattle.journal.specs.declared.record.Record.TheVariants.{Entry, Connection}
use Rattle.journal.specs.Records.{spelled, all_spelled, CanBeWritten}
use Rattle.journal.specs.Contents.{Contents, counts_of, counts_after, letters_after, refusal, next, with_records}
use Rattle.journal.specs.Replaying.{front}
use Rattle.journal.specs.Durability.{FirstPart}
use Rattle.journal.proofs.RecordLaws.{spelled-long, front_again}
use Rattle.journal.proofs.Coming.{entry_can, connection_can, none_then, next-some, next-counts}

-- WHAT THEY MAKE

-- a step that gave something
pub record Through {A B : Type 0} (o : Option A) (f : A → Option B) (y : B) : Type 0 where
  pub value : A
  pub first : o ≡ Some value
  pub rest : f value ≡ Some y

pub through : {A B : Type 0} (o : Option A) (f : A → Option B) (y : B) → o >>= f ≡ Some y → Through o f y
through (Some x) f y e = record { value = x; first = refl; rest = e }
through None f y e = absurd cc

pub with_first : (r : Record) (rs : List Record) (c d : Contents) → with_records (r ∷ rs) c ≡ Some d → Through (next r c) (with_records rs) d
unfolding with_records
with_first r rs c d e = through (next r c) (with_records rs) d e

pub with_records-append : (rs qs : List Record) (c d : Contents) → with_records rs c ≡ Some d → with_records (rs ++ qs) c ≡ with_records qs d
unfolding with_records
with_records-append [] qs c d e = rw (same_Some c d e) refl
with_records-append (r ∷ rs) qs c d e =
    let t = through (next r c) (with_records rs) d e in
    rw t.first (with_records-append rs qs t.value d t.rest)

-- THEY CAN BE WRITTEN

-- in a text of so many letters at most, and there are no more afterwards
operation_fits : (o : Operation ℕ) (m : ℕ) → m ≤ 65536 → refusal_at 65536 m o ≡ None → OperationInWords o × (letters_after o m ≤ 65536)
operation_fits (Noop i) m few none = (tt, few)
operation_fits (Insert i p x) m few none =
    let t = none_then (is_number x) _ _ none in
    let u = none_then (nat_le p m) _ _ t.1 in
    let v = none_then (nat_lt m 65536) _ _ u.1 in
    (omega (arith, leb-true p m u.0), omega (arith, ltb-true m 65536 v.0))
operation_fits (Delete i p) m few none = let t = none_then (nat_lt p m) None text.BeyondText none in (omega (arith, ltb-true p m t.0), omega arith)

fits : (r : Record) (c : Contents) → length c.text ≤ 65536 → refusal r (counts_of c) ≡ None → CanBeWritten r × ((counts_after r (counts_of c)).letters ≤ 65536)
fits (Entry e) c few none =
    let t = entry_can e (counts_of c) none in
    let u = operation_fits e.op (length c.text) few t.in_text in
    ((t.fit, u.0, omega (arith, t.in_order, t.room)), u.1)
fits (Connection n) c few none = (omega (arith, (connection_can n (counts_of c) none).room), few)

pub can_be_written : (rs : List Record) (c d : Contents) → length c.text ≤ 65536 → with_records rs c ≡ Some d → All CanBeWritten rs
can_be_written [] c d few makes = All-nil CanBeWritten
can_be_written (r ∷ rs) c d few makes =
    let t = with_first r rs c d makes in
    let u = fits r c few (next-some r c t.value t.first).0 in
    let fewer : length t.value.text ≤ 65536 = omega (arith, ap (λ n. n.letters) (next-counts r c t.value t.first), u.1) in
    All-cons CanBeWritten r rs u.0 (can_be_written rs t.value d fewer t.rest)

-- THEIR BYTES

pub all_spelled-append : (rs qs : List Record) → all_spelled (rs ++ qs) ≡ all_spelled rs ++ all_spelled qs
unfolding all_spelled
all_spelled-append [] qs = refl
all_spelled-append (r ∷ rs) qs = ap (λ (l : List ℕ). spelled r ++ l) (all_spelled-append rs qs) ∙ sym (append_assoc (spelled r) (all_spelled rs) (all_spelled qs))

pub first_spelled : {rs qs : List Record} → FirstPart rs qs → FirstPart (all_spelled rs) (all_spelled qs)
first_spelled {rs} {qs} a = record { rest = all_spelled a.rest; whole = ap all_spelled a.whole ∙ all_spelled-append rs a.rest }

-- no two lists of records that can be written have the same bytes
pub only_spelled : (rs qs : List Record) → All CanBeWritten rs → All CanBeWritten qs → all_spelled rs ≡ all_spelled qs → rs ≡ qs
unfolding all_spelled
only_spelled [] [] a b e = refl
only_spelled [] (q ∷ qs) a b e = absurd (omega (arith, spelled-long q, ap length e, length-append (spelled q) (all_spelled qs)))
only_spelled (r ∷ rs) [] a b e = absurd (omega (arith, spelled-long r, ap length e, length-append (spelled r) (all_spelled rs)))
only_spelled (r ∷ rs) (q ∷ qs) a b e =
    let one : r ≡ q = same_Some r q (sym (front_again r (all_spelled rs) (All-head CanBeWritten r rs a)) ∙ ap front e ∙ front_again q (all_spelled qs) (All-head CanBeWritten q qs b)) in
    let others : all_spelled rs ≡ all_spelled qs = append_cancel_left (spelled r) (all_spelled rs) (all_spelled qs) (e ∙ ap (λ (x : Record). spelled x ++ all_spelled qs) (sym one)) in
    let rest = only_spelled rs qs (All-tail CanBeWritten r rs a) (All-tail CanBeWritten q qs b) others in
    cc
