-- What a crash may leave of a record is not refused, what is not refused may go on, and nothing that is refused may.
use Rattle.std.proofs.Common.{◌≡◌, ℕ, zero, suc, ◌^◌, ◌<◌, ◌≤◌, ◌+◌, ◌-◌, true, cond, List, [], ◌∷◌, ◌++◌, length, get_or, take, drop, Option, Some, None, nat_le, nat_lt, ◌==◌, refl, sym, ap, ◌∙◌, subst, arith, inl, inr, below_none}
use Rattle.std.specs.Int.{w32, from_be_bytes}
use Rattle.std.specs.List.{list_all}
use Rattle.std.proofs.lemmas.Bool.{cases_lt, cond_both, and_parts, and_from, leb-true, le-leb, ltb-true, lt-ltb}
use Rattle.std.proofs.lemmas.Bool.Decides.{nat_tests}
use Rattle.std.proofs.lemmas.List.{length-take, length-drop, length-append, take-append-drop, take_at, append-nil, nil_from_length}
use Rattle.std.proofs.lemmas.Option.{none-some}
use Rattle.std.proofs.lemmas.Nat.{be_bytes_4, from_be_bytes-to_be_bytes_4}
use Rattle.operation.specs.declared.operation.Operation.{Operation}
use Rattle.operation.specs.declared.operation.Operation.TheVariants.{Noop, Insert, Delete}
use Rattle.operation.specs.Edits.{site}
use Rattle.text.specs.declared.refusal.Refusal.TheVariants as text
use Rattle.text.specs.Texts.{refusal_at}
use Rattle.link.specs.Letters.{is_number}
use Rattle.link.specs.Messages.{is_fit_operation, OperationInWords}
use Rattle.link.specs.Spelling.{word}
use Rattle.link.proofs.FiveBytes.{IsBytes, IsBytes-take, IsBytes-drop}
use Rattle.journal.specs.declared.record.Record.{Record}
use Rattle.journal.specs.declared.record.Record.TheVariants.{Entry, Connection}
use Rattle.journal.specs.declared.refusal.Refusal.{Refusal}
use Rattle.journal.specs.declared.counts.Counts.{Counts}
use Rattle.journal.specs.Records.{spelled, record_in, CanBeWritten}
use Rattle.journal.specs.Contents.{refusal}
use Rattle.journal.specs.Replaying.{connection_end, entry_end, record_end, completed, record_refusal, tail_refusal, front_refusal}
use Rattle.journal.proofs.Bytes.{from_test, IsBytes-append, IsBytes-word, site_fit}
use Rattle.journal.proofs.RecordLaws.{record_takes, record_again, front_again, spelled_short, spelled_whole}
use Rattle.journal.proofs.Coming.{ConnectionCan, entry_can, entry_can-none, connection_can, connection_can-none, none_then}

-- FOUR BYTES, SOME OF THEM OTHERS

abbrev number : List ℕ → ℕ
number bytes = from_be_bytes w32 bytes

-- the front of one list, and the end of another
abbrev cut : ℕ → List ℕ → List ℕ → List ℕ
cut j xs ys = take j xs ++ drop j ys

abbrev zeros : List ℕ
zeros = 0 ∷ 0 ∷ 0 ∷ 0 ∷ []

abbrev one : List ℕ
one = 0 ∷ 0 ∷ 0 ∷ 1 ∷ []

-- what holds of 0 to 3
four : (P : ℕ → Type 0) → P 0 → P 1 → P 2 → P 3 → (j : ℕ) → j < 4 → P j
four P a b c d zero lt = a
four P a b c d (suc zero) lt = b
four P a b c d (suc (suc zero)) lt = c
four P a b c d (suc (suc (suc zero))) lt = d
four P a b c d (suc (suc (suc (suc j)))) lt = absurd (omega arith)

-- zeros behind the cut make a place no higher, and zeros and a 1 behind it make a letter that there is
place_cut : (q j : ℕ) → q < 2 ^ 32 → j < 4 → number (cut j (word q) zeros) ≤ q
place_cut q j small =
    let all = from_be_bytes-to_be_bytes_4 q small in
    four (λ j. number (cut j (word q) zeros) ≤ q) (omega arith) (omega arith) (omega arith) (omega arith) j

letter_cut : (x j : ℕ) → is_number x ≡ true → j < 4 → is_number (number (cut j (word x) one)) ≡ true
letter_cut x j fit lt =
    let few : x ≤ 1114111 = leb-true x 1114111 (and_parts (nat_le 1 x) (nat_le x 1114111) fit).1 in
    let all = from_be_bytes-to_be_bytes_4 x (omega arith) in
    let within = four (λ j. (1 ≤ number (cut j (word x) one)) × (number (cut j (word x) one) ≤ 1114111)) (omega arith, omega arith) (omega arith, omega arith) (omega arith, omega arith) (omega arith, omega arith) j lt in
    and_from _ _ (le-leb _ _ within.0) (le-leb _ _ within.1)

-- the highest connection with such a front
abbrev highest : List ℕ → List ℕ
highest bytes = 255 ∷ 255 ∷ 255 ∷ cond (list_all (λ b. b == 255) bytes) 254 255 ∷ []

abbrev HighEnough : ℕ → ℕ → Type 0
HighEnough c d = (c ≤ d) × (d < 4294967295)

connection_cut : (c j : ℕ) → c < 4294967295 → j < 4 → HighEnough c (number (cut j (word c) (highest (take j (word c)))))
connection_cut c j small =
    let all = from_be_bytes-to_be_bytes_4 c (omega arith) in
    four (λ j. HighEnough c (number (cut j (word c) (highest (take j (word c))))))
    (omega arith, omega arith)
    (grind (arith, nat_tests), grind (arith, nat_tests))
    (grind (arith, nat_tests), grind (arith, nat_tests))
    (grind (arith, nat_tests), grind (arith, nat_tests)) j

-- BYTES

IsBytes-highest : (bytes : List ℕ) → IsBytes (highest bytes)
IsBytes-highest bytes = cond_both (list_all (λ b. b == 255) bytes) 254 255 (λ e. IsBytes (255 ∷ 255 ∷ 255 ∷ e ∷ [])) (λ _. from_test (255 ∷ 255 ∷ 255 ∷ 254 ∷ []) refl) (λ _. from_test (255 ∷ 255 ∷ 255 ∷ 255 ∷ []) refl)

-- four bytes are the word of a number, with a cut among them, too
word_cut : (j n : ℕ) (ys : List ℕ) → length ys ≡ 4 → IsBytes ys → cut j (word n) ys ≡ word (number (cut j (word n) ys))
word_cut j n ys width fits =
    let long : length (cut j (word n) ys) ≡ 4 = omega (arith, length-append (take j (word n)) (drop j ys), length-take j (word n), length-drop j ys) in
    sym (be_bytes_4 (cut j (word n) ys) _ long (IsBytes-append _ _ (IsBytes-take j (word n) (IsBytes-word n)) (IsBytes-drop j ys fits)) refl)

-- WHAT IS LEFT OF A RECORD

abbrev Left : Counts → Record → ℕ → Type 0
Left n r k = tail_refusal n (take k (spelled r)) ≡ None

could_come : (n : Counts) (r : Record) (bytes : List ℕ) → CanBeWritten r → refusal r n ≡ None → bytes ≡ spelled r → record_refusal (record_in bytes) n ≡ None
could_come n r bytes can none same = rw (same, record_again r can, none) refl

-- an operation that could stand in the next entry
record Could (n : Counts) (o : Operation ℕ) : Type 0 where
  fit : is_fit_operation o ≡ true
  in_words : OperationInWords o
  in_text : refusal_at 65536 n.letters o ≡ None

abbrev entry : ℕ → Operation ℕ → Record
entry p o = Entry (record { place = p; op = o })

record Next (n : Counts) (p : ℕ) : Type 0 where
  small : p < 2 ^ 32
  in_order : p ≡ n.entries
  room : n.entries < 4294967294

entry_could : (n : Counts) (p : ℕ) (o : Operation ℕ) (bytes : List ℕ) → Next n p → Could n o → bytes ≡ spelled (entry p o) → record_refusal (record_in bytes) n ≡ None
entry_could n p o bytes here could same =
    let none = entry_can-none (record { place = p; op = o }) n (record { fit = could.fit; in_text = could.in_text; in_order = here.in_order; room = here.room }) in
    could_come n (entry p o) bytes (could.fit, could.in_words, here.small) none same

noop_could : (n : Counts) (i : ℕ) → nat_le i 15 ≡ true → Could n (Noop i)
noop_could n i fit = record { fit = fit; in_words = tt; in_text = refl }

insert_could : (n : Counts) (i p x q y : ℕ) → Could n (Insert i p x) → q ≤ p → is_number y ≡ true → Could n (Insert i q y)
insert_could n i p x q y could at fit =
    let t = none_then (is_number x) _ _ could.in_text in
    let u = none_then (nat_le p n.letters) _ _ t.1 in
    let v = none_then (nat_lt n.letters 65536) _ _ u.1 in
    record {
      fit = and_from _ _ (and_parts (nat_le i 15) (is_number x) could.fit).0 fit;
      in_words = omega (arith, could.in_words);
      in_text = rw (fit, le-leb q n.letters (omega (arith, leb-true p n.letters u.0)), v.0) refl;
    }

delete_could : (n : Counts) (i p q : ℕ) → Could n (Delete i p) → q ≤ p → Could n (Delete i q)
delete_could n i p q could at =
    let t = none_then (nat_lt p n.letters) None text.BeyondText could.in_text in
    record { fit = could.fit; in_words = omega (arith, could.in_words); in_text = rw (lt-ltb q n.letters (omega (arith, ltb-true p n.letters t.0))) refl }

-- cut within the entry's place, behind its operation's kind or within its letter
within_place : (n : Counts) (p : ℕ) (o : Operation ℕ) → Next n p → (j : ℕ) → j < 4 → Left n (entry p o) (1 + j)
within_place n p o here =
    let rest = 0 ∷ 0 ∷ (zeros ++ zeros) in
    let left = λ (j : ℕ). entry_could n p (Noop 0) (2 ∷ (cut j (word p) (word n.entries) ++ rest)) here (noop_could n 0 refl)
    (ap (λ (m : ℕ). 2 ∷ (cut j (word p) (word m) ++ rest)) (sym here.in_order) ∙ ap (λ (l : List ℕ). 2 ∷ (l ++ rest)) (take-append-drop j (word p))) in
    four (λ j. Left n (entry p o) (1 + j)) (left 0) (left 1) (left 2) (left 3)

within_operation : (n : Counts) (p : ℕ) (o : Operation ℕ) → Next n p → Could n o → (j : ℕ) → j < 4 → Left n (entry p o) (7 + j)
within_operation n p (Noop i) here could =
    let left = entry_could n p (Noop i) _ here could refl in
    four (λ j. Left n (entry p (Noop i)) (7 + j)) left left left left
within_operation n p (Insert i q x) here could =
    let fewer = λ (j : ℕ) (lt : j < 4). insert_could n i q x (number (cut j (word q) zeros)) 1 could (place_cut q j could.in_words lt) refl in
    let left = λ (j : ℕ) (lt : j < 4). entry_could n p (Insert i (number (cut j (word q) zeros)) 1) (2 ∷ (word p ++ i ∷ 1 ∷ (cut j (word q) zeros ++ one))) here (fewer j lt)
    (ap (λ (l : List ℕ). 2 ∷ (word p ++ i ∷ 1 ∷ (l ++ one))) (word_cut j q zeros refl (from_test zeros refl))) in
    four (λ j. Left n (entry p (Insert i q x)) (7 + j)) (left 0 (omega arith)) (left 1 (omega arith)) (left 2 (omega arith)) (left 3 (omega arith))
within_operation n p (Delete i q) here could =
    let fewer = λ (j : ℕ) (lt : j < 4). delete_could n i q (number (cut j (word q) zeros)) could (place_cut q j could.in_words lt) in
    let left = λ (j : ℕ) (lt : j < 4). entry_could n p (Delete i (number (cut j (word q) zeros))) (2 ∷ (word p ++ i ∷ 2 ∷ (cut j (word q) zeros ++ zeros))) here (fewer j lt)
    (ap (λ (l : List ℕ). 2 ∷ (word p ++ i ∷ 2 ∷ (l ++ zeros))) (word_cut j q zeros refl (from_test zeros refl))) in
    four (λ j. Left n (entry p (Delete i q)) (7 + j)) (left 0 (omega arith)) (left 1 (omega arith)) (left 2 (omega arith)) (left 3 (omega arith))

within_letter : (n : Counts) (p : ℕ) (o : Operation ℕ) → Next n p → Could n o → (j : ℕ) → j < 4 → Left n (entry p o) (11 + j)
within_letter n p (Noop i) here could =
    let left = entry_could n p (Noop i) _ here could refl in
    four (λ j. Left n (entry p (Noop i)) (11 + j)) left left left left
within_letter n p (Insert i q x) here could =
    let number_of_x : is_number x ≡ true = (and_parts (nat_le i 15) (is_number x) could.fit).1 in
    let other = λ (j : ℕ) (lt : j < 4). insert_could n i q x q (number (cut j (word x) one)) could (omega arith) (letter_cut x j number_of_x lt) in
    let left = λ (j : ℕ) (lt : j < 4). entry_could n p (Insert i q (number (cut j (word x) one))) (2 ∷ (word p ++ i ∷ 1 ∷ (word q ++ cut j (word x) one))) here (other j lt)
    (ap (λ (l : List ℕ). 2 ∷ (word p ++ i ∷ 1 ∷ (word q ++ l))) (word_cut j x one refl (from_test one refl))) in
    four (λ j. Left n (entry p (Insert i q x)) (11 + j)) (left 0 (omega arith)) (left 1 (omega arith)) (left 2 (omega arith)) (left 3 (omega arith))
within_letter n p (Delete i q) here could =
    let left = entry_could n p (Delete i q) _ here could refl in
    four (λ j. Left n (entry p (Delete i q)) (11 + j)) left left left left

-- all below one number, and the next ones up to another
joined : (P : ℕ → Type 0) (m n : ℕ) → ((k : ℕ) → k < m → P k) → ((j : ℕ) → j < n → P (m + j)) → (k : ℕ) → k < m + n → P k
joined P m n below more k lt =
    elim (cases_lt k m) [
      | inl less ↦ below k less
      | inr le ↦ let same : m + (k - m) ≡ k = omega arith in subst P same (more (k - m) (omega arith))
    ]

one_more : (P : ℕ → Type 0) (m : ℕ) → P m → (j : ℕ) → j < 1 → P (m + j)
one_more P m here j lt = let same : m ≡ m + j = omega arith in subst P same here

left_of_entry : (n : Counts) (p : ℕ) (o : Operation ℕ) → Next n p → Could n o → (k : ℕ) → k < 15 → Left n (entry p o) k
left_of_entry n p o here could =
    let P = λ (k : ℕ). Left n (entry p o) k in
    let noop = λ (i : ℕ) (fit : nat_le i 15 ≡ true). entry_could n p (Noop i) (spelled (entry p (Noop i))) here (noop_could n i fit) refl in
    joined P 11 4 (joined P 7 4 (joined P 6 1 (joined P 5 1 (joined P 1 4 (joined P 0 1 (below_none P) (one_more P 0 refl))
    (within_place n p o here)) (one_more P 5 (noop 0 refl))) (one_more P 6 (noop (site o) (site_fit o could.fit)))) (within_operation n p o here could)) (within_letter n p o here could)

left_of_connection : (n : Counts) (c : ℕ) → ConnectionCan c n → (k : ℕ) → k < 5 → Left n (Connection c) k
left_of_connection n c can =
    let P = λ (k : ℕ). Left n (Connection c) k in
    let end = λ (j : ℕ). highest (take j (word c)) in
    let enough = λ (j : ℕ) (lt : j < 4). connection_cut c j can.room lt in
    let left = λ (j : ℕ) (lt : j < 4). could_come n (Connection (number (cut j (word c) (end j)))) (6 ∷ cut j (word c) (end j)) (omega (arith, enough j lt))
    (connection_can-none _ n (record { above = omega (arith, enough j lt, can.above); room = (enough j lt).1 }))
    (ap (λ (l : List ℕ). 6 ∷ l) (word_cut j c (end j) refl (IsBytes-highest (take j (word c))))) in
    joined P 1 4 (joined P 0 1 (below_none P) (one_more P 0 refl)) (four (λ j. P (1 + j)) (left 0 (omega arith)) (left 1 (omega arith)) (left 2 (omega arith)) (left 3 (omega arith)))

-- what a crash leaves of a record that can come next is not refused
pub tail_of_record : (r : Record) (n : Counts) (k : ℕ) → CanBeWritten r → refusal r n ≡ None → k < length (spelled r) → tail_refusal n (take k (spelled r)) ≡ None
tail_of_record (Entry e) n k can none lt =
    let t = entry_can e n none in
    left_of_entry n e.place e.op (record { small = can.2; in_order = t.in_order; room = t.room }) (record { fit = t.fit; in_words = can.1; in_text = t.in_text }) k lt
tail_of_record (Connection c) n k can none lt = left_of_connection n c (connection_can c n none) k lt

-- WHAT IS NOT REFUSED MAY GO ON

-- a record that can be written and come next, of which the bytes are the front
pub record Part (n : Counts) (bytes : List ℕ) : Type 0 where
  pub whole : Record
  pub written : CanBeWritten whole
  pub could : refusal whole n ≡ None
  pub more : List ℕ
  pub spelled_so : spelled whole ≡ bytes ++ more

pub unrefused : (o : Option Record) (n : Counts) → record_refusal o n ≡ None → (r : Record) × (o ≡ Some r) × (refusal r n ≡ None)
unrefused None n e = absurd cc
unrefused (Some r) n e = (r, refl, e)

IsBytes-end : (n : Counts) (bytes : List ℕ) → IsBytes (record_end n bytes)
IsBytes-end n bytes =
    let behind = λ (e : ℕ). 0 ∷ (zeros ++ (zeros ++ e ∷ [])) in
    let end = cond_both (get_or bytes 6 0 == 1) 1 0 (λ e. IsBytes (behind e)) (λ _. from_test (behind 1) refl) (λ _. from_test (behind 0) refl) in
    cond_both (get_or bytes 0 0 == 6) (connection_end bytes) (entry_end n bytes) IsBytes
    (λ _. IsBytes-append (6 ∷ []) (highest (drop 1 bytes)) (from_test (6 ∷ []) refl) (IsBytes-highest (drop 1 bytes)))
    (λ _. IsBytes-append (2 ∷ word n.entries) (behind (cond (get_or bytes 6 0 == 1) 1 0)) (IsBytes-append (2 ∷ []) (word n.entries) (from_test (2 ∷ []) refl) (IsBytes-word n.entries)) end)

pub tail_is_part : (n : Counts) (b : ℕ) (bs : List ℕ) → IsBytes (b ∷ bs) → tail_refusal n (b ∷ bs) ≡ None → Part n (b ∷ bs)
tail_is_part n b bs fits e =
    let bytes = b ∷ bs in
    let more = drop (length bytes) (record_end n bytes) in
    let t = unrefused (completed n bytes) n e in
    let u = (record_takes (bytes ++ more) (IsBytes-append bytes more fits (IsBytes-drop (length bytes) (record_end n bytes) (IsBytes-end n bytes)))).at t.0 t.1 in
    record { whole = t.0; written = u.1; could = t.2; more = more; spelled_so = sym u.0 }

-- AND WHAT IS REFUSED IS NO PART

-- a record may stand at the front
pub front_of_record : (r : Record) (n : Counts) (rest : List ℕ) → CanBeWritten r → front_refusal n (spelled r ++ rest) ≡ refusal r n
front_of_record r n rest can = rw (spelled_whole r rest, front_again r rest can) refl

-- or a first part of it may be all
short_of_record : (r : Record) (n : Counts) (k : ℕ) (bytes : List ℕ) → CanBeWritten r → refusal r n ≡ None → take k (spelled r) ≡ bytes → k < length (spelled r) → front_refusal n bytes ≡ None
short_of_record r n k bytes can none is lt = rw (← is, spelled_short r k lt) (tail_of_record r n k can none lt)

pub part_of_record : (r : Record) (n : Counts) (bytes rest : List ℕ) → CanBeWritten r → refusal r n ≡ None → spelled r ≡ bytes ++ rest → front_refusal n bytes ≡ None
part_of_record r n bytes rest can none same =
    elim (cases_lt (length bytes) (length (spelled r))) [
      | inl lt ↦ short_of_record r n (length bytes) bytes can none (rw same (take_at bytes rest (length bytes) refl)) lt
      | inr le ↦
          let nothing : rest ≡ [] = nil_from_length rest (omega (arith, ap length same, length-append bytes rest)) in
          let whole : bytes ≡ spelled r ++ [] = cc (append-nil bytes, append-nil (spelled r)) in
          ap (front_refusal n) whole ∙ front_of_record r n [] can ∙ none
    ]

pub front_refused : (n : Counts) (bytes : List ℕ) (why : Refusal) → front_refusal n bytes ≡ Some why → (r : Record) → CanBeWritten r → refusal r n ≡ None → (rest : List ℕ)
    → ((bytes ≡ spelled r ++ rest) → ⊥) × ((spelled r ≡ bytes ++ rest) → ⊥)
front_refused n bytes why e r can none rest = (
  λ same. none-some why (sym none ∙ sym (front_of_record r n rest can) ∙ ap (front_refusal n) (sym same) ∙ e),
  λ same. none-some why (sym (part_of_record r n bytes rest can none same) ∙ e),
)
