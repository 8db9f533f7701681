-- A message that is read is spelled so and can be said, and what can be said is read again.
use Rattle.std.proofs.Common.{◌≡◌, ℕ, ◌^◌, ◌<◌, ◌≤◌, true, false, List, [], ◌∷◌, ◌++◌, length, Some, nat_le, ◌==◌, refl, ap, arith}
use Rattle.std.proofs.lemmas.Bool.{eqb-true, eq-eqb, leb-true, le-leb, and_parts, and_from}
use Rattle.operation.specs.declared.operation.Operation.{Operation}
use Rattle.operation.specs.declared.operation.Operation.TheVariants.{Noop, Insert, Delete}
use Rattle.operation.specs.Edits.{site}
use Rattle.text.specs.Texts.{Letter}
use Rattle.link.specs.declared.message.Edit.{Edit}
use Rattle.link.specs.declared.message.Edit.TheVariants as edit
use Rattle.link.specs.declared.message.FromClient.{FromClient}
use Rattle.link.specs.declared.message.FromClient.TheVariants as client
use Rattle.link.specs.declared.fields.OperationCode.{OperationCode}
use Rattle.link.specs.Letters.{is_number, are_fit, letters_in, spelled_letters}
use Rattle.link.specs.Messages.{Message, Sheet, operation, revision, new, entry, text, from_client, is_from_client, is_fit, is_fit_edit, is_fit_operation, InWords, OperationInWords}
use Rattle.link.specs.Spelling.{word, spelled, spelled_code, edit_code, operation_code}
use Rattle.link.specs.Reading.{operation_at, revision_at, new_at, entry_at, text_at, counted, same_as, client_message, server_message, message_at, byte_at}
use Rattle.link.proofs.FiveBytes.{IsBytes, letters_in-some, letters_in-spelled}
use Rattle.link.proofs.Steps.{Gives, gives, then, by_test, if_passed}
use Rattle.link.proofs.FieldLaws.{byte_takes, word_takes, word_again, site_takes, site_again, ended_takes, code_takes, CodeInWords, code_again, edit_takes, edit_again, op_takes, op_again}

-- the bytes are those of the message, and it can be said
pub record Says (c : ℕ) (bytes : List ℕ) (m : Message) : Type 0 where
  pub spelled_so : bytes ≡ spelled c m
  pub fit : is_fit c m ≡ true
  pub in_words : InWords m

-- WHAT IS READ IS SPELLED SO

edit-in_words : (r : ℕ) (f : OperationCode) (e : Edit) → r < 2 ^ 32 → f.place < 2 ^ 32 → f ≡ edit_code e → InWords (operation r e)
edit-in_words r f (edit.Insert p x) a b same = (a, rw (ap (λ (g : OperationCode). g.place) same) at b)
edit-in_words r f (edit.Delete p) a b same = (a, rw (ap (λ (g : OperationCode). g.place) same) at b)

operation_takes : (c : ℕ) (bytes rest : List ℕ) → bytes ≡ 1 ∷ rest → IsBytes rest → Gives (operation_at rest) (Says c bytes)
unfolding operation_at
operation_takes c bytes rest front fits =
    then _ _ (word_takes rest fits) (λ r a. then _ _ (code_takes r.1 a.2) (λ f b. then _ _ (edit_takes f) (λ e d.
    gives _ (record { spelled_so = cc; fit = d.1; in_words = edit-in_words r.0 f e a.1 b.1 d.0 }))))

revision_takes : (c : ℕ) (bytes rest : List ℕ) → bytes ≡ 3 ∷ rest → IsBytes rest → Gives (revision_at rest) (Says c bytes)
unfolding revision_at
revision_takes c bytes rest front fits =
    then _ _ (word_takes rest fits) (λ r a. ended_takes (revision r.0) r.1 (λ none. record { spelled_so = cc; fit = refl; in_words = a.1 }))

new_takes : (c : ℕ) (bytes rest : List ℕ) → bytes ≡ 4 ∷ rest → Gives (new_at c rest) (Says c bytes)
unfolding new_at
new_takes c bytes rest front = if_passed (c == 0) _ (λ e. ended_takes new rest (λ none. record { spelled_so = cc; fit = e; in_words = tt }))

entry_takes : (c : ℕ) (bytes rest : List ℕ) → bytes ≡ 2 ∷ rest → IsBytes rest → Gives (entry_at rest) (Says c bytes)
unfolding entry_at
entry_takes c bytes rest front fits =
    then _ _ (word_takes rest fits) (λ p a. then _ _ (site_takes p.1 a.2) (λ i b. then _ _ (code_takes i.1 b.2) (λ f d. then _ _ (op_takes i.0 f b.1 d.1) (λ o h.
    gives _ (record { spelled_so = cc; fit = h.2; in_words = (a.1, h.3) })))))

same_takes : (c : ℕ) (d : ℕ × List ℕ) → IsBytes d.1 → Gives (same_as c d) (λ rest. (d ≡ (c, rest)) × IsBytes rest)
same_takes c d fits = if_passed _ _ (λ e. gives d.1 (ap (λ (n : ℕ). (n, d.1)) (eqb-true _ _ e), fits))

counted_takes : (n : ℕ) (ls : List Letter) → Gives (counted n ls) (λ all. (ls ≡ all) × (length ls ≡ n))
counted_takes n ls = if_passed _ _ (λ e. gives ls (refl, eqb-true _ _ e))

letters_take : (bytes : List ℕ) → IsBytes bytes → Gives (letters_in bytes) (λ ls. (bytes ≡ spelled_letters ls) × (length ls ≤ 65536) × (are_fit ls ≡ true))
letters_take bytes fits = record { at = λ ls e. letters_in-some bytes ls fits e }

text_takes : (c : ℕ) (bytes rest : List ℕ) → bytes ≡ 5 ∷ rest → IsBytes rest → Gives (text_at c rest) (Says c bytes)
unfolding text_at
text_takes c bytes rest front fits =
    then _ _ (word_takes rest fits) (λ d a. then _ _ (same_takes c d a.2) (λ behind b. then _ _ (site_takes behind b.1) (λ i s.
    then _ _ (word_takes i.1 s.2) (λ m t. then _ _ (word_takes m.1 t.2) (λ r u. then _ _ (word_takes r.1 u.2) (λ n v.
    then _ _ (letters_take n.1 v.2) (λ ls w. then _ _ (counted_takes n.0 ls) (λ all k.
    gives _ (record { spelled_so = cc; fit = and_from _ _ s.1 (rw (← k.0) (and_from _ _ (le-leb _ _ w.1) w.2)); in_words = (t.1, u.1) })))))))))

-- the messages of one end

starts : {k n : ℕ} {bytes rest : List ℕ} → (k == n) ≡ true → bytes ≡ k ∷ rest → bytes ≡ n ∷ rest
starts {k} {n} e front = rw (← eqb-true k n e) front

pub client_takes : (c : ℕ) (bytes : List ℕ) → IsBytes bytes → Gives (message_at (client_message c) bytes) (Says c bytes)
unfolding message_at
client_takes c bytes fits =
    then _ _ (byte_takes bytes fits) (λ k t.
    by_test (k.0 == 1) _ _ (λ e. operation_takes c bytes k.1 (starts e t.0) t.1)
    (λ _. by_test (k.0 == 3) _ _ (λ e. revision_takes c bytes k.1 (starts e t.0) t.1)
    (λ _. if_passed (k.0 == 4) _ (λ e. new_takes c bytes k.1 (starts e t.0)))))

pub server_takes : (c : ℕ) (bytes : List ℕ) → IsBytes bytes → Gives (message_at (server_message c) bytes) (Says c bytes)
unfolding message_at
server_takes c bytes fits =
    then _ _ (byte_takes bytes fits) (λ k t.
    by_test (k.0 == 2) _ _ (λ e. entry_takes c bytes k.1 (starts e t.0) t.1)
    (λ _. if_passed (k.0 == 5) _ (λ e. text_takes c bytes k.1 (starts e t.0) t.1)))

-- WHAT CAN BE SAID IS READ AGAIN

number-in_word : (x : ℕ) → is_number x ≡ true → x < 2 ^ 32
number-in_word x fit = omega (arith, leb-true x 1114111 (and_parts (nat_le 1 x) (nat_le x 1114111) fit).1)

edit-code_in_words : (r : ℕ) (e : Edit) → is_fit_edit e ≡ true → InWords (operation r e) → (r < 2 ^ 32) × CodeInWords (edit_code e)
edit-code_in_words r (edit.Insert p x) fit small = (small.0, (small.1, number-in_word x fit))
edit-code_in_words r (edit.Delete p) fit small = (small.0, (small.1, omega arith))

pub op-code_in_words : (o : Operation ℕ) → is_fit_operation o ≡ true → OperationInWords o → (nat_le (site o) 15 ≡ true) × CodeInWords (operation_code o)
op-code_in_words (Noop i) fit small = (fit, (omega arith, omega arith))
op-code_in_words (Insert i p x) fit small = let t = and_parts (nat_le i 15) (is_number x) fit in (t.0, (small, number-in_word x t.1))
op-code_in_words (Delete i p) fit small = (fit, (small, omega arith))

operation_again : (r : ℕ) (e : Edit) → is_fit_edit e ≡ true → InWords (operation r e) → operation_at (word r ++ spelled_code (edit_code e)) ≡ Some (operation r e)
unfolding operation_at
operation_again r e fit small =
    let t = edit-code_in_words r e fit small in
    rw (word_again r (spelled_code (edit_code e)) t.0, code_again (edit_code e) t.1, edit_again e fit) refl

entry_again : (p : ℕ) (o : Operation ℕ) → p < 2 ^ 32 → is_fit_operation o ≡ true → OperationInWords o → entry_at (word p ++ site o ∷ spelled_code (operation_code o)) ≡ Some (entry (record { place = p; op = o }))
unfolding entry_at
entry_again p o lt fit small =
    let t = op-code_in_words o fit small in
    rw (word_again p (site o ∷ spelled_code (operation_code o)) lt, site_again (site o) (spelled_code (operation_code o)) t.0, code_again (operation_code o) t.1, op_again o fit) refl

text_again : (c : ℕ) (s : Sheet) → c < 2 ^ 32 → is_fit c (text s) ≡ true → InWords (text s) → message_at (server_message c) (spelled c (text s)) ≡ Some (text s)
unfolding message_at byte_at text_at
text_again c s lt fit small =
    let f = and_parts (nat_le s.site 15) _ fit in
    let g = and_parts (nat_le (length s.letters) 65536) (are_fit s.letters) f.1 in
    let few : length s.letters ≤ 65536 = leb-true (length s.letters) 65536 g.0 in
    let letters = spelled_letters s.letters in
    let counted = word (length s.letters) ++ letters in
    let versed = word s.revision ++ counted in
    rw (
      word_again c (s.site ∷ (word s.performed ++ versed)) lt,
      eq-eqb c c refl,
      site_again s.site (word s.performed ++ versed) f.0,
      word_again s.performed versed small.0,
      word_again s.revision counted small.1,
      word_again (length s.letters) letters (omega arith),
      letters_in-spelled s.letters few g.1,
      eq-eqb (length s.letters) (length s.letters) refl,
    ) refl

pub client_again : (c : ℕ) (m : FromClient) → is_fit c (from_client m) ≡ true → InWords (from_client m) → message_at (client_message c) (spelled c (from_client m)) ≡ Some (from_client m)
unfolding message_at byte_at revision_at new_at
client_again c (client.Operation r e) fit small = operation_again r e fit small
client_again c (client.Revision r) fit small = rw (word_again r [] small) refl
client_again c client.New fit small = rw fit refl

pub server_again : (c : ℕ) (m : Message) → c < 2 ^ 32 → is_from_client m ≡ false → is_fit c m ≡ true → InWords m → message_at (server_message c) (spelled c m) ≡ Some m
unfolding message_at byte_at
server_again c (operation r e) lt from fit small = absurd cc
server_again c (revision r) lt from fit small = absurd cc
server_again c new lt from fit small = absurd cc
server_again c (entry e) lt from fit small = entry_again e.place e.op small.0 fit small.1
server_again c (text s) lt from fit small = text_again c s lt fit small
