-- A field that is read is the field that was written, and what was written is read again.
use Rattle.std.proofs.Common.{◌≡◌, ℕ, ◌^◌, ◌<◌, ◌≤◌, true, List, [], ◌∷◌, ◌++◌, length, take, drop, Some, nat_le, ◌&&◌, ◌==◌, refl, sym, ap, ◌∙◌, arith}
use Rattle.std.specs.Int.{w32, from_be_bytes}
use Rattle.std.proofs.lemmas.Bool.{ltb-false, le-ltb, eqb-true, and_parts, and_from}
use Rattle.std.proofs.lemmas.List.{take-append-drop, length-take, nil_from_length}
use Rattle.std.proofs.lemmas.Nat.{be_bytes_4, from_be_bytes-to_be_bytes_4}
use Rattle.operation.specs.declared.operation.Operation.{Operation}
use Rattle.operation.specs.declared.operation.Operation.TheVariants.{Noop, Insert, Delete}
use Rattle.operation.specs.Edits.{site}
use Rattle.link.specs.declared.message.Edit.{Edit}
use Rattle.link.specs.declared.message.Edit.TheVariants as edit
use Rattle.link.specs.declared.fields.OperationCode.{OperationCode}
use Rattle.link.specs.Letters.{is_number}
use Rattle.link.specs.Messages.{is_fit_edit, is_fit_operation, OperationInWords}
use Rattle.link.specs.Spelling.{word, edit_code, operation_code, spelled_code}
use Rattle.link.specs.Reading.{byte_at, word_at, site_at, code_at, ended, edit_from, operation_from}
use Rattle.link.proofs.FiveBytes.{IsBytes, IsBytes-drop, IsBytes-take, IsBytes-tail}
use Rattle.link.proofs.Steps.{Gives, gives, nothing, then, by_test, if_passed}

-- bytes and numbers

pub byte_takes : (bytes : List ℕ) → IsBytes bytes → Gives (byte_at bytes) (λ x. (bytes ≡ x.0 ∷ x.1) × IsBytes x.1)
unfolding byte_at
byte_takes [] fits = nothing
byte_takes (b ∷ rest) fits = gives _ (refl, IsBytes-tail b rest fits)

pub word_takes : (bytes : List ℕ) → IsBytes bytes → Gives (word_at bytes) (λ x. (bytes ≡ word x.0 ++ x.1) × (x.0 < 2 ^ 32) × IsBytes x.1)
unfolding word_at
word_takes bytes fits = by_test _ _ _ (λ _. nothing) (λ e.
    let long : 4 ≤ length bytes = ltb-false _ _ e in
    let front = IsBytes-take 4 bytes fits in
    let same : word (from_be_bytes w32 (take 4 bytes)) ≡ take 4 bytes = be_bytes_4 (take 4 bytes) _ (omega (arith, length-take 4 bytes)) front refl in
    gives _ (sym (ap (λ (x : List ℕ). x ++ drop 4 bytes) same ∙ take-append-drop 4 bytes), omega (arith, front 0, front 1, front 2, front 3), IsBytes-drop 4 bytes fits))

pub word_again : (n : ℕ) (rest : List ℕ) → n < 2 ^ 32 → word_at (word n ++ rest) ≡ Some (n, rest)
unfolding word_at
word_again n rest lt = rw (le-ltb (length (word n ++ rest)) 4 (omega arith), from_be_bytes-to_be_bytes_4 n lt) refl

pub site_takes : (bytes : List ℕ) → IsBytes bytes → Gives (site_at bytes) (λ x. (bytes ≡ x.0 ∷ x.1) × (nat_le x.0 15 ≡ true) × IsBytes x.1)
unfolding site_at
site_takes bytes fits = then _ _ (byte_takes bytes fits) (λ x t. if_passed _ _ (λ e. gives _ (t.0, e, t.1)))

pub site_again : (i : ℕ) (rest : List ℕ) → nat_le i 15 ≡ true → site_at (i ∷ rest) ≡ Some (i, rest)
unfolding site_at byte_at
site_again i rest fit = rw fit refl

pub ended_takes : {A : Type 0} (x : A) (rest : List ℕ) {P : A → Type 0} → (rest ≡ [] → P x) → Gives (ended x rest) P
ended_takes x rest here = if_passed _ _ (λ e. gives x (here (nil_from_length rest (eqb-true _ _ e))))

-- what operations have

pub code_takes : (bytes : List ℕ) → IsBytes bytes → Gives (code_at bytes) (λ f. (bytes ≡ spelled_code f) × (f.place < 2 ^ 32))
unfolding code_at
code_takes bytes fits =
    then _ _ (byte_takes bytes fits) (λ k a. then _ _ (word_takes k.1 a.1) (λ p b. then _ _ (word_takes p.1 b.2) (λ l c. ended_takes _ l.1 (λ none. (cc, b.1)))))

abbrev pub CodeInWords : OperationCode → Type 0
CodeInWords f = (f.place < 2 ^ 32) × (f.letter < 2 ^ 32)

pub code_again : (f : OperationCode) → CodeInWords f → code_at (spelled_code f) ≡ Some f
unfolding code_at byte_at
code_again f small = rw (word_again f.place (word f.letter) small.0, word_again f.letter [] small.1) refl

code_is : (f : OperationCode) (k p l : ℕ) → f.kind ≡ k → f.place ≡ p → f.letter ≡ l → f ≡ record { kind = k; place = p; letter = l }
code_is f k p l a b c = rw (← a, ← b, ← c) refl

pub edit_takes : (f : OperationCode) → Gives (edit_from f) (λ e. (f ≡ edit_code e) × (is_fit_edit e ≡ true))
edit_takes f =
    by_test (f.kind == 1 && is_number f.letter) _ _
    (λ e. let t = and_parts _ _ e in gives (edit.Insert f.place f.letter) (code_is f 1 f.place f.letter (eqb-true _ _ t.0) refl refl, t.1))
    (λ _. if_passed (f.kind == 2 && f.letter == 0) _ (λ e. let t = and_parts _ _ e in gives (edit.Delete f.place) (code_is f 2 f.place 0 (eqb-true _ _ t.0) refl (eqb-true _ _ t.1), refl)))

pub edit_again : (e : Edit) → is_fit_edit e ≡ true → edit_from (edit_code e) ≡ Some e
edit_again (edit.Insert p x) fit = rw fit refl
edit_again (edit.Delete p) fit = refl

pub op_takes : (i : ℕ) (f : OperationCode) → nat_le i 15 ≡ true → f.place < 2 ^ 32 → Gives (operation_from i f) (λ o. (f ≡ operation_code o) × (i ≡ site o) × (is_fit_operation o ≡ true) × OperationInWords o)
op_takes i f fit lt =
    by_test (f.kind == 1 && is_number f.letter) _ _
    (λ e. let t = and_parts _ _ e in gives (Insert i f.place f.letter) (code_is f 1 f.place f.letter (eqb-true _ _ t.0) refl refl, refl, and_from _ _ fit t.1, lt))
    (λ _. by_test (f.kind == 2 && f.letter == 0) _ _
    (λ e. let t = and_parts _ _ e in gives (Delete i f.place) (code_is f 2 f.place 0 (eqb-true _ _ t.0) refl (eqb-true _ _ t.1), refl, fit, lt))
    (λ _. if_passed (f.kind == 0 && (f.place == 0 && f.letter == 0)) _ (λ e. let t = and_parts _ _ e in let u = and_parts _ _ t.1 in gives (Noop i) (code_is f 0 0 0 (eqb-true _ _ t.0) (eqb-true _ _ u.0) (eqb-true _ _ u.1), refl, fit, tt))))

pub op_again : (o : Operation ℕ) → is_fit_operation o ≡ true → operation_from (site o) (operation_code o) ≡ Some o
op_again (Noop i) fit = refl
op_again (Insert i p x) fit = rw (and_parts (nat_le i 15) (is_number x) fit).1 refl
op_again (Delete i p) fit = refl
