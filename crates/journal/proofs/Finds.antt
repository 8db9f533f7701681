-- What a reader finds at the front, and where it stands then.
use Rattle.std.proofs.Common.{◌≡◌, ℕ, ◌+◌, ◌<◌, ◌≤◌, Bool, true, false, cond, List, [], ◌∷◌, ◌++◌, length, take, drop, Option, Some, None, Result, Ok, Err, refl, ap, ◌∙◌, arith}
use Rattle.std.specs.Prelude.{IfOk, IfSome}
use Rattle.std.proofs.Math.Seq.{take-add}
use Rattle.std.proofs.lemmas.List.{length-drop, drop_all}
use Rattle.journal.specs.declared.record.Record.{Record}
use Rattle.journal.specs.declared.refusal.Refusal.{Refusal}
use Rattle.journal.specs.declared.counts.Counts.{Counts}
use Rattle.journal.specs.Records.{spelled, CanBeWritten}
use Rattle.journal.specs.Contents.{Contents, refusal, next}
use Rattle.journal.specs.Replaying.{front, behind, is_short, whole_found, found, completed, tail_refusal, front_refusal, record_refusal}
use Rattle.link.proofs.FiveBytes.{IsBytes}
use Rattle.journal.proofs.RecordLaws.{front_length, front_takes, front_again, spelled_whole, spelled_short}
use Rattle.journal.proofs.Replays.{behind-nil, behind-append, behind_record}

pub found_nothing : (bytes : List ℕ) → found bytes ≡ Ok None → is_short bytes ≡ true
found_nothing bytes e = by (is_short bytes) (front bytes) e where
  by : (b : _) (o : Option Record) → cond b (Ok None) (whole_found o) ≡ Ok None → b ≡ true
  by true o e = refl
  by false None e = absurd cc
  by false (Some r) e = absurd cc

pub record Found (bytes : List ℕ) (r : Record) : Type 0 where
  pub whole : is_short bytes ≡ false
  pub there : front bytes ≡ Some r

pub found_record : (bytes : List ℕ) (r : Record) → found bytes ≡ Ok (Some r) → Found bytes r
found_record bytes r e = record { whole = (by (is_short bytes) (front bytes) e).0; there = (by (is_short bytes) (front bytes) e).1 } where
  by : (b : _) (o : Option Record) → cond b (Ok None) (whole_found o) ≡ Ok (Some r) → (b ≡ false) × (o ≡ Some r)
  by true o e = absurd cc
  by false None e = absurd cc
  by false (Some s) e = (refl, cc)

pub found_none : (n : Counts) (bytes : List ℕ) (why : Refusal) → found bytes ≡ Err why → front_refusal n bytes ≡ Some why
found_none n bytes why e = by (is_short bytes) (front bytes) e where
  by : (b : _) (o : Option Record) → cond b (Ok None) (whole_found o) ≡ Err why → cond b (tail_refusal n bytes) (record_refusal o n) ≡ Some why
  by true o e = absurd cc
  by false None e = cc
  by false (Some r) e = absurd cc

-- what is refused is whole
pub none_whole : (bytes : List ℕ) (why : Refusal) → found bytes ≡ Err why → is_short bytes ≡ false
none_whole bytes why e = by (is_short bytes) (front bytes) e where
  by : (b : Bool) (o : Option Record) → cond b (Ok None) (whole_found o) ≡ Err why → b ≡ false
  by true o e = absurd cc
  by false o e = refl

pub there_whole : (bytes : List ℕ) (r : Record) → found bytes ≡ Ok (Some r) → is_short bytes ≡ false
there_whole bytes r e = (found_record bytes r e).whole

-- why the record that is found is refused
pub refused_there : (n : Counts) (bytes : List ℕ) (r : Record) → found bytes ≡ Ok (Some r) → front_refusal n bytes ≡ refusal r n
refused_there n bytes r e = let t = found_record bytes r e in rw (t.whole, t.there) refl

front_fits : (bytes : List ℕ) (r : Record) → front bytes ≡ Some r → length (spelled r) ≤ length bytes
unfolding front
front_fits [] r e = absurd cc
front_fits (b ∷ bs) r e = ((front_length b bs).at r e).1

pub fits_there : (bytes : List ℕ) (n : ℕ) (r : Record) → n ≤ length bytes → found (drop n bytes) ≡ Ok (Some r) → n + length (spelled r) ≤ length bytes
fits_there bytes n r le e = omega (arith, front_fits (drop n bytes) r (found_record (drop n bytes) r e).there, length-drop n bytes)

-- it is taken in
pub taken_there : (bytes : List ℕ) (n : ℕ) (r : Record) (c d e : Contents) → behind (take n bytes) c ≡ Some d → found (drop n bytes) ≡ Ok (Some r) → next r d ≡ Some e
    → behind (take (n + length (spelled r)) bytes) c ≡ Some e
taken_there bytes n r c d e before there came =
    rw (take-add n (length (spelled r)) bytes) (behind-append (take n bytes) _ c d before ∙ behind_record (drop n bytes) r d e (found_record (drop n bytes) r there).there came)

-- nothing is taken in yet
pub none_taken : (c : Contents) → behind [] c ≡ Some c
none_taken c = behind-nil c

-- nothing is left
pub none_left : (bytes : List ℕ) (n : ℕ) → length bytes ≤ n → is_short (drop n bytes) ≡ true
none_left bytes n le = rw (drop_all n bytes le) refl

-- the end of a journal
pub none_short : (n : Counts) (bytes : List ℕ) → length bytes ≡ 0 → tail_refusal n bytes ≡ None
none_short n [] e = refl
none_short n (b ∷ bs) e = absurd (omega (arith, e))

pub judged : (n : Counts) (bytes : List ℕ) (o : Option Record) → 0 < length bytes → completed n bytes ≡ o → tail_refusal n bytes ≡ record_refusal o n
judged n [] o some e = absurd (omega (arith, some))
judged n (b ∷ bs) o some e = rw e refl

-- reading and writing, both ways

pub read_so : (bytes : List ℕ) → IsBytes bytes → IfOk (found bytes) (λ o. IfSome o (λ r. (bytes ≡ spelled r ++ drop (length (spelled r)) bytes) × CanBeWritten r))
read_so bytes fits = by (found bytes) refl where
  by : (x : Result (Option Record) Refusal) → found bytes ≡ x → IfOk x (λ o. IfSome o (λ r. (bytes ≡ spelled r ++ drop (length (spelled r)) bytes) × CanBeWritten r))
  by (Ok None) e = tt
  by (Ok (Some r)) e = (front_takes bytes fits).at r (found_record bytes r e).there
  by (Err why) e = tt

pub read_again : (bytes : List ℕ) (r : Record) (rest : List ℕ) → CanBeWritten r → bytes ≡ spelled r ++ rest → found bytes ≡ Ok (Some r)
read_again bytes r rest can is = ap found is ∙ rw (spelled_whole r rest, front_again r rest can) refl

pub read_part : (bytes : List ℕ) (r : Record) (n : ℕ) → n < length (spelled r) → bytes ≡ take n (spelled r) → found bytes ≡ Ok None
read_part bytes r n lt is = ap found is ∙ rw (spelled_short r n lt) refl
