-- What bytes make of the contents: record by record, part by part, and back to the records.
use Rattle.std.proofs.Common.{◌≡◌, ℕ, zero, suc, ◌≤◌, List, [], ◌∷◌, ◌++◌, length, take, drop, Option, Some, None, refl, sym, ap, ◌∙◌, arith}
use Rattle.std.specs.List.{All}
use Rattle.std.proofs.lemmas.List.{length-take, length-drop, append-nil, drop_at, drop_all, drop-append-le}
use Rattle.std.proofs.lemmas.List.Elements.{All-nil, All-cons}
use Rattle.std.proofs.lemmas.Option.{same_Some}
use Rattle.link.specs.Reading.{◌>>=◌}
use Rattle.link.proofs.FiveBytes.{IsBytes, IsBytes-drop}
use Rattle.link.proofs.Steps.{Gives, gives, then}
use Rattle.journal.specs.declared.record.Record.{Record}
use Rattle.journal.specs.Records.{spelled, all_spelled, CanBeWritten}
use Rattle.journal.specs.Contents.{Contents, next, with_records}
use Rattle.journal.specs.Replaying.{front, replayed, behind}
use Rattle.journal.proofs.RecordLaws.{spelled-long, front_length, front_takes, front_again, front-append, front-take}

-- STEPS

pub itself : {A : Type 0} (o : Option A) → Gives o (λ x. o ≡ Some x)
itself o = record { at = λ x e. e }

same_steps : {A B : Type 0} (o : Option A) (f g : A → Option B) → ((x : A) → f x ≡ g x) → o >>= f ≡ o >>= g
same_steps (Some x) f g h = h x
same_steps None f g h = refl

-- as many steps as bytes are enough

rest_shorter : (r : Record) (b : ℕ) (bs : List ℕ) → length (drop (length (spelled r)) (b ∷ bs)) ≤ length bs
rest_shorter r b bs = omega (arith, spelled-long r, length-drop (length (spelled r)) (b ∷ bs))

enough : (n m : ℕ) (bytes : List ℕ) (c : Contents) → length bytes ≤ n → length bytes ≤ m → replayed n bytes c ≡ replayed m bytes c
unfolding replayed
enough n m [] c p q = refl
enough zero m (b ∷ bs) c p q = absurd (omega arith)
enough (suc n) zero (b ∷ bs) c p q = absurd (omega arith)
enough (suc n) (suc m) (b ∷ bs) c p q =
    same_steps (front (b ∷ bs)) _ _ (λ r. same_steps (next r c) _ _ (λ d.
    let less = rest_shorter r b bs in
    enough n m (drop (length (spelled r)) (b ∷ bs)) d (omega arith) (omega arith)))

pub behind-nil : (c : Contents) → behind [] c ≡ Some c
unfolding replayed
behind-nil c = refl

pub behind-cons : (b : ℕ) (bs : List ℕ) (c : Contents) → behind (b ∷ bs) c ≡ (front (b ∷ bs) >>= (λ r. next r c >>= behind (drop (length (spelled r)) (b ∷ bs))))
unfolding replayed
behind-cons b bs c =
    same_steps (front (b ∷ bs)) _ _ (λ r. same_steps (next r c) _ _ (λ d.
    let less = rest_shorter r b bs in
    enough (length bs) _ (drop (length (spelled r)) (b ∷ bs)) d less (omega arith)))

-- the record at the front, and what is behind it
pub behind_front : (bytes : List ℕ) (r : Record) (c : Contents) → front bytes ≡ Some r → behind bytes c ≡ (next r c >>= behind (drop (length (spelled r)) bytes))
unfolding front
behind_front [] r c e = absurd cc
behind_front (b ∷ bs) r c e = behind-cons b bs c ∙ rw e refl

pub record Step (bytes : List ℕ) (c d : Contents) : Type 0 where
  pub first : Record
  pub read : front bytes ≡ Some first
  pub after : Contents
  pub came : next first c ≡ Some after
  pub rest : behind (drop (length (spelled first)) bytes) after ≡ Some d

pub first_step : (b : ℕ) (bs : List ℕ) (c : Contents) → Gives (behind (b ∷ bs) c) (Step (b ∷ bs) c)
first_step b bs c =
    let steps : Gives (front (b ∷ bs) >>= (λ r. next r c >>= behind (drop (length (spelled r)) (b ∷ bs)))) (Step (b ∷ bs) c) =
    then _ _ (itself (front (b ∷ bs))) (λ r e. then _ _ (itself (next r c)) (λ m came. record { at = λ d rest. record { first = r; read = e; after = m; came = came; rest = rest } })) in
    rw behind-cons steps

-- PARTS

-- with enough steps for the first part
parts : (n : ℕ) (xs ys : List ℕ) (c d : Contents) → length xs ≤ n → behind xs c ≡ Some d → behind (xs ++ ys) c ≡ behind ys d
parts n [] ys c d few e = ap (behind ys) (same_Some c d (sym (behind-nil c) ∙ e))
parts zero (b ∷ bs) ys c d few e = absurd (omega arith)
parts (suc n) (b ∷ bs) ys c d few e =
    let s = (first_step b bs c).at d e in
    let w = length (spelled s.first) in
    let long : w ≤ length (b ∷ bs) = ((front_length b bs).at s.first s.read).1 in
    let less = rest_shorter s.first b bs in
    let step = behind_front (b ∷ bs ++ ys) s.first c (front-append (b ∷ bs) ys s.first s.read) in
    step ∙ rw (s.came, drop-append-le w (b ∷ bs) ys long) (parts n (drop w (b ∷ bs)) ys s.after d (omega arith) s.rest)

pub behind-append : (xs ys : List ℕ) (c d : Contents) → behind xs c ≡ Some d → behind (xs ++ ys) c ≡ behind ys d
behind-append xs ys c d e = parts (length xs) xs ys c d (omega arith) e

-- one record that can come next, and where it stands

alone : (bytes : List ℕ) (r : Record) (c d : Contents) → front bytes ≡ Some r → length bytes ≤ length (spelled r) → next r c ≡ Some d → behind bytes c ≡ Some d
alone bytes r c d e short came = behind_front bytes r c e ∙ rw (came, drop_all (length (spelled r)) bytes short) (behind-nil d)

pub behind_record : (ys : List ℕ) (r : Record) (c d : Contents) → front ys ≡ Some r → next r c ≡ Some d → behind (take (length (spelled r)) ys) c ≡ Some d
behind_record ys r c d e came =
    let w = length (spelled r) in
    alone (take w ys) r c d (front-take ys r e) (omega (arith, length-take w ys)) came

-- RECORDS

pub behind_spelled_then : (r : Record) (rest : List ℕ) (c : Contents) → CanBeWritten r → behind (spelled r ++ rest) c ≡ (next r c >>= behind rest)
behind_spelled_then r rest c can = behind_front (spelled r ++ rest) r c (front_again r rest can) ∙ rw (drop_at (spelled r) rest (length (spelled r)) refl) refl

pub behind_spelled : (r : Record) (c d : Contents) → CanBeWritten r → next r c ≡ Some d → behind (spelled r) c ≡ Some d
behind_spelled r c d can came = alone (spelled r) r c d (ap front (sym (append-nil (spelled r))) ∙ front_again r [] can) (omega arith) came

pub behind_records : (rs : List Record) (c : Contents) → All CanBeWritten rs → behind (all_spelled rs) c ≡ with_records rs c
unfolding all_spelled with_records
behind_records [] c can = behind-nil c
behind_records (r ∷ rs) c can =
    behind_spelled_then r (all_spelled rs) c (can 0 r (omega arith)) ∙ same_steps (next r c) _ _ (λ d. behind_records rs d (λ k x lt. can (suc k) x (omega arith)))

-- what bytes are whose records can all come next
pub record Replay (bytes : List ℕ) (c d : Contents) : Type 0 where
  pub records : List Record
  pub spelled_so : bytes ≡ all_spelled records
  pub written : All CanBeWritten records
  pub holds : with_records records c ≡ Some d

replays : (n : ℕ) (bytes : List ℕ) (c : Contents) → length bytes ≤ n → IsBytes bytes → Gives (behind bytes c) (Replay bytes c)
unfolding all_spelled with_records
replays n [] c few fits = rw behind-nil (gives c (record { records = []; spelled_so = refl; written = All-nil CanBeWritten; holds = refl }))
replays zero (b ∷ bs) c few fits = absurd (omega arith)
replays (suc n) (b ∷ bs) c few fits = record {
  at = λ d e.
      let s = (first_step b bs c).at d e in
      let w = length (spelled s.first) in
      let t = (front_takes (b ∷ bs) fits).at s.first s.read in
      let less = rest_shorter s.first b bs in
      let more = (replays n (drop w (b ∷ bs)) s.after (omega arith) (IsBytes-drop w (b ∷ bs) fits)).at d s.rest in
      record {
        records = s.first ∷ more.records;
        spelled_so = t.0 ∙ ap (λ (rest : List ℕ). spelled s.first ++ rest) more.spelled_so;
        written = All-cons CanBeWritten s.first more.records t.1 more.written;
        holds = rw s.came more.holds;
      };
}

pub behind_takes : (bytes : List ℕ) (c : Contents) → IsBytes bytes → Gives (behind bytes c) (Replay bytes c)
behind_takes bytes c fits = replays (length bytes) bytes c (omega arith) fits
