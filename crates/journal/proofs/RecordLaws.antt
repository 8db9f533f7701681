-- A record that is read is spelled so and can be written, and what can be written is read again.
use Rattle.std.proofs.Common.{◌≡◌, ℕ, zero, suc, ◌<◌, ◌≤◌, ◌+◌, true, false, List, [], ◌∷◌, ◌++◌, length, get_or, take, drop, Option, Some, None, nat_le, nat_lt, ◌==◌, refl, sym, ap, ◌∙◌, arith}
use Rattle.std.specs.Prelude.{option_map}
use Rattle.std.proofs.lemmas.Bool.{eqb-true, ltb-true, ltb-false, lt-ltb, le-ltb}
use Rattle.std.proofs.lemmas.List.{length-append, length-take, length-drop, take-append-drop, take-append-le, take-take, drop_min}
use Rattle.operation.specs.declared.operation.Operation.{Operation}
use Rattle.operation.specs.declared.entry.Entry.{Entry as HistoryEntry}
use Rattle.operation.specs.Edits.{site}
use Rattle.link.specs.Spelling.{spelled_code, operation_code}
use Rattle.link.specs.Reading.{byte_at, word_at, site_at, code_at}
use Rattle.link.specs.EntryBytes.{entry_bytes, behind_two, entry_in}
use Rattle.link.proofs.FiveBytes.{IsBytes, IsBytes-take}
use Rattle.link.proofs.Steps.{Gives, gives, nothing, then, by_test, if_passed}
use Rattle.link.proofs.FieldLaws.{byte_takes, word_takes, word_again, site_takes, site_again, ended_takes, code_takes, code_again, op_takes, op_again}
use Rattle.link.proofs.Messages.{op-code_in_words}
use Rattle.journal.specs.declared.record.Record.{Record}
use Rattle.journal.specs.declared.record.Record.TheVariants.{Entry, Connection}
use Rattle.journal.specs.Records.{spelled, width, connection_in, record_in, CanBeWritten}
use Rattle.journal.specs.Replaying.{front, is_short}

-- ENTRIES

two_takes : (bytes : List ℕ) (kind : ℕ × List ℕ) → bytes ≡ kind.0 ∷ kind.1 → IsBytes kind.1 → Gives (behind_two kind) (λ rest. (bytes ≡ 2 ∷ rest) × IsBytes rest)
two_takes bytes kind front fits = if_passed (kind.0 == 2) _ (λ e. gives kind.1 (rw (← eqb-true kind.0 2 e) front, fits))

pub entry_in_takes : (bytes : List ℕ) → IsBytes bytes → Gives (entry_in bytes) (λ e. (bytes ≡ entry_bytes e) × CanBeWritten (Entry e))
unfolding entry_in
entry_in_takes bytes fits =
    then _ _ (byte_takes bytes fits) (λ k a. then _ _ (two_takes bytes k a.0 a.1) (λ rest b. then _ _ (word_takes rest b.1) (λ p c. then _ _ (site_takes p.1 c.2) (λ i d.
    then _ _ (code_takes i.1 d.2) (λ f g. then _ _ (op_takes i.0 f d.1 g.1) (λ o h.
    gives _ (cc, (h.2, h.3, c.1))))))))

pub entry_in_again : (e : HistoryEntry (Operation ℕ)) → CanBeWritten (Entry e) → entry_in (entry_bytes e) ≡ Some e
unfolding entry_in byte_at
entry_in_again e can =
    let t = op-code_in_words e.op can.0 can.1 in
    rw (word_again e.place (site e.op ∷ spelled_code (operation_code e.op)) can.2, site_again (site e.op) (spelled_code (operation_code e.op)) t.0, code_again (operation_code e.op) t.1, op_again e.op can.0) refl

-- RECORDS

mapped : {A B : Type 0} (f : A → B) (o : Option A) {P : A → Type 0} {Q : B → Type 0} → Gives o P → ((x : A) → P x → Q (f x)) → Gives (option_map f o) Q
mapped f (Some x) g k = gives (f x) (k x (g.at x refl))
mapped f None g k = nothing

connection_takes : (bytes rest : List ℕ) → bytes ≡ 6 ∷ rest → IsBytes rest → Gives (connection_in rest) (λ r. (bytes ≡ spelled r) × CanBeWritten r)
connection_takes bytes rest front fits = then _ _ (word_takes rest fits) (λ c a. ended_takes (Connection c.0) c.1 (λ none. (cc, a.1)))

pub record_takes : (bytes : List ℕ) → IsBytes bytes → Gives (record_in bytes) (λ r. (bytes ≡ spelled r) × CanBeWritten r)
unfolding record_in
record_takes bytes fits =
    then _ _ (byte_takes bytes fits) (λ k a.
    by_test (k.0 == 2) _ _ (λ _. mapped Entry _ (entry_in_takes bytes fits) (λ e t. t))
    (λ _. if_passed (k.0 == 6) _ (λ e. connection_takes bytes k.1 (rw (← eqb-true k.0 6 e) a.0) a.1)))

pub record_again : (r : Record) → CanBeWritten r → record_in (spelled r) ≡ Some r
unfolding record_in byte_at
record_again (Entry e) can = rw (entry_in_again e can) refl
record_again (Connection c) can = rw (word_again c [] can) refl

-- HOW LONG A RECORD IS

-- as its first byte says
pub width-spelled : (r : Record) (rest : List ℕ) → width (get_or (spelled r ++ rest) 0 0) ≡ Some (length (spelled r))
width-spelled (Entry e) rest = refl
width-spelled (Connection c) rest = refl

pub spelled-long : (r : Record) → 5 ≤ length (spelled r)
spelled-long (Entry e) = omega arith
spelled-long (Connection c) = omega arith

-- and nothing shorter is read, whatever the bytes are

any : {A : Type 0} {o : Option A} → Gives o (λ _. Unit {0})
any = record { at = λ _ _. tt }

byte_length : (bytes : List ℕ) → Gives (byte_at bytes) (λ x. length bytes ≡ 1 + length x.1)
unfolding byte_at
byte_length [] = nothing
byte_length (b ∷ rest) = gives _ (omega arith)

word_length : (bytes : List ℕ) → Gives (word_at bytes) (λ x. length bytes ≡ 4 + length x.1)
unfolding word_at
word_length bytes = by_test (nat_lt (length bytes) 4) _ _ (λ _. nothing) (λ e.
    let more : length bytes ≡ 4 + length (drop 4 bytes) = omega (arith, ltb-false (length bytes) 4 e, length-drop 4 bytes) in gives _ more)

site_length : (bytes : List ℕ) → Gives (site_at bytes) (λ x. length bytes ≡ 1 + length x.1)
unfolding site_at
site_length bytes = then _ _ (byte_length bytes) (λ x t. if_passed (nat_le x.0 15) _ (λ _. gives x t))

code_length : (bytes : List ℕ) → Gives (code_at bytes) (λ _. length bytes ≡ 9)
unfolding code_at
code_length bytes =
    then _ _ (byte_length bytes) (λ k a. then _ _ (word_length k.1) (λ p b. then _ _ (word_length p.1) (λ l c.
    ended_takes _ l.1 (λ none. omega (arith, a, b, c, ap length none)))))

entry_length : (bytes : List ℕ) → Gives (entry_in bytes) (λ _. length bytes ≡ 15)
unfolding entry_in
entry_length bytes =
    then _ _ (byte_length bytes) (λ k a. then _ _ {P = λ rest. k.1 ≡ rest} (if_passed (k.0 == 2) _ (λ _. gives _ refl)) (λ rest same. then _ _ (word_length rest) (λ p b. then _ _ (site_length p.1) (λ i c.
    then _ _ (code_length i.1) (λ f d.
    record { at = λ _ _. omega (arith, a, b, c, d, ap length same) })))))

-- its first byte says how long bytes are that are a record
record_length : (bytes : List ℕ) → Gives (record_in bytes) (λ r. (width (get_or bytes 0 0) ≡ Some (length (spelled r))) × (length bytes ≡ length (spelled r)))
unfolding record_in byte_at
record_length [] = nothing
record_length (b ∷ rest) =
    by_test (b == 2) _ _ (λ two. mapped Entry _ (entry_length (b ∷ rest)) (λ e n. (rw two refl, n)))
    (λ other. if_passed (b == 6) _ (λ six. then _ _ (word_length rest) (λ c n. ended_takes (Connection c.0) c.1 (λ none. (rw (other, six) refl, omega (arith, n, ap length none))))))

part_length : (w b : ℕ) (bs : List ℕ) → Gives (record_in (take w (b ∷ bs))) (λ r. (width b ≡ Some (length (spelled r))) × (length (spelled r) ≤ suc (length bs)))
unfolding record_in byte_at
part_length zero b bs = nothing
part_length (suc w) b bs = record { at = λ r e. let t = (record_length (b ∷ take w bs)).at r e in (t.0, omega (arith, t.1, length-take w bs)) }

pub front_length : (b : ℕ) (bs : List ℕ) → Gives (front (b ∷ bs)) (λ r. (width b ≡ Some (length (spelled r))) × (length (spelled r) ≤ suc (length bs)))
unfolding front
front_length b bs = then _ _ any (λ w _. part_length w b bs)

-- THE RECORD AT THE FRONT

starts : (w : ℕ) (xs ys : List ℕ) → take w xs ≡ ys → xs ≡ ys ++ drop (length ys) xs
starts w xs ys e = rw (← e, length-take w xs, drop_min w xs) (sym (take-append-drop w xs))

pub front_takes : (bytes : List ℕ) → IsBytes bytes → Gives (front bytes) (λ r. (bytes ≡ spelled r ++ drop (length (spelled r)) bytes) × CanBeWritten r)
unfolding front
front_takes [] fits = nothing
front_takes (b ∷ bs) fits =
    then _ _ any (λ w _. record {
      at = λ r e.
          let t = (record_takes (take w (b ∷ bs)) (IsBytes-take w (b ∷ bs) fits)).at r e in (starts w (b ∷ bs) (spelled r) t.0, t.1);
    })

pub front_again : (r : Record) (rest : List ℕ) → CanBeWritten r → front (spelled r ++ rest) ≡ Some r
unfolding front
front_again (Entry e) rest can = record_again (Entry e) can
front_again (Connection c) rest can = record_again (Connection c) can

front_is : (b w : ℕ) (bs : List ℕ) → width b ≡ Some w → front (b ∷ bs) ≡ record_in (take w (b ∷ bs))
unfolding front
front_is b w bs e = rw e refl

-- more bytes change nothing, and neither do fewer, as long as the record is whole

pub front-append : (xs ys : List ℕ) (r : Record) → front xs ≡ Some r → front (xs ++ ys) ≡ Some r
unfolding front
front-append [] ys r e = absurd cc
front-append (b ∷ bs) ys r e =
    let t = (front_length b bs).at r e in
    front_is b (length (spelled r)) (bs ++ ys) t.0 ∙ rw (take-append-le (length (spelled r)) (b ∷ bs) ys t.1) (sym (front_is b (length (spelled r)) bs t.0) ∙ e)

pub short_is : (b w : ℕ) (bs : List ℕ) → width b ≡ Some w → is_short (b ∷ bs) ≡ nat_lt (suc (length bs)) w
short_is b w bs e = rw e refl

-- nothing that is whole is another with more behind it

module _ (ys : List ℕ) where
  whole_width : (b : ℕ) (bs : List ℕ) → is_short (b ∷ bs) ≡ false → (o : Option ℕ) → width b ≡ o → (front (b ∷ (bs ++ ys)) ≡ front (b ∷ bs)) × (is_short (b ∷ (bs ++ ys)) ≡ false)
  unfolding front
  whole_width b bs whole None e = (rw e refl, rw e refl)
  whole_width b bs whole (Some w) e =
      let within : w ≤ length (b ∷ bs) = omega (arith, ltb-false (suc (length bs)) w (sym (short_is b w bs e) ∙ whole)) in
      let more = length-append bs ys in (
        front_is b w (bs ++ ys) e ∙ ap record_in (take-append-le w (b ∷ bs) ys within) ∙ sym (front_is b w bs e),
        short_is b w (bs ++ ys) e ∙ le-ltb (suc (length (bs ++ ys))) w (omega (arith, within, more)),
      )

  pub whole_front : (xs : List ℕ) → is_short xs ≡ false → (front (xs ++ ys) ≡ front xs) × (is_short (xs ++ ys) ≡ false)
  whole_front [] whole = absurd cc
  whole_front (b ∷ bs) whole = whole_width b bs whole (width b) refl

part_front : (w b : ℕ) (bs : List ℕ) → width b ≡ Some w → 5 ≤ w → front (take w (b ∷ bs)) ≡ record_in (take w (b ∷ bs))
part_front zero b bs e long = absurd (omega arith)
part_front (suc w) b bs e long = front_is b (suc w) (take w bs) e ∙ rw (take-take w w bs (omega arith)) refl

pub front-take : (xs : List ℕ) (r : Record) → front xs ≡ Some r → front (take (length (spelled r)) xs) ≡ Some r
unfolding front
front-take [] r e = absurd cc
front-take (b ∷ bs) r e =
    let t = (front_length b bs).at r e in
    part_front (length (spelled r)) b bs t.0 (spelled-long r) ∙ sym (front_is b (length (spelled r)) bs t.0) ∙ e

-- PARTS OF RECORDS

short_part : (b w k : ℕ) (bs : List ℕ) → width b ≡ Some w → suc (length bs) ≡ w → k < w → is_short (take k (b ∷ bs)) ≡ true
short_part b w zero bs e long lt = refl
short_part b w (suc k) bs e long lt = short_is b w (take k bs) e ∙ lt-ltb _ _ (omega (arith, length-take k bs))

pub spelled_short : (r : Record) (k : ℕ) → k < length (spelled r) → is_short (take k (spelled r)) ≡ true
spelled_short (Entry e) k lt = short_part 2 15 k _ refl refl lt
spelled_short (Connection c) k lt = short_part 6 5 k _ refl refl lt

pub spelled_whole : (r : Record) (rest : List ℕ) → is_short (spelled r ++ rest) ≡ false
spelled_whole (Entry e) rest = le-ltb _ _ (omega arith)
spelled_whole (Connection c) rest = le-ltb _ _ (omega arith)

none_if : {A : Type 0} (o : Option A) → ((x : A) → o ≡ Some x → ⊥) → o ≡ None
none_if (Some x) never = absurd (never x refl)
none_if None never = refl

pub front_short : (bytes : List ℕ) → is_short bytes ≡ true → front bytes ≡ None
unfolding front
front_short [] short = refl
front_short (b ∷ bs) short = none_if _ (λ r e.
    let t = (front_length b bs).at r e in
    let below : nat_lt (suc (length bs)) (length (spelled r)) ≡ true = sym (short_is b _ bs t.0) ∙ short in
    omega (arith, ltb-true _ _ below, t.1))

-- a strict first part of a record is no record, and none is at its front
pub front_part : (r : Record) (k : ℕ) → k < length (spelled r) → front (take k (spelled r)) ≡ None
front_part r k lt = front_short (take k (spelled r)) (spelled_short r k lt)
