-- Where records end in bytes that are a first part of theirs.
use Rattle.std.proofs.Common.{◌≡◌, ℕ, ◌+◌, ◌<◌, ◌≤◌, true, false, List, [], ◌∷◌, ◌++◌, length, take, drop, Some, None, refl, sym, ap, subst, ◌∙◌, arith, inl, inr}
use Rattle.std.specs.List.{All}
use Rattle.std.proofs.Math.Seq.{take-append-add, drop-append-add}
use Rattle.std.proofs.lemmas.Bool.{cases_lt}
use Rattle.std.proofs.lemmas.List.{append_assoc, append_cancel_left, length-append, take-append-drop, drop_at}
use Rattle.std.proofs.lemmas.List.Elements.{All-head, All-tail, All-drop}
use Rattle.std.proofs.lemmas.Option.{none-some}
use Rattle.link.specs.Reading.{◌>>=◌}
use Rattle.link.proofs.Steps.{Gives, gives, then}
use Rattle.journal.specs.declared.record.Record.{Record}
use Rattle.journal.specs.declared.counts.Counts.{Counts}
use Rattle.journal.specs.Records.{spelled, all_spelled, CanBeWritten}
use Rattle.journal.specs.Contents.{Contents, counts_of, refusal, next, with_records}
use Rattle.journal.specs.Replaying.{front, behind, is_short, tail_refusal, front_refusal}
use Rattle.journal.specs.Durability.{FirstPart}
use Rattle.journal.proofs.RecordLaws.{front_short, front_part, spelled_short, spelled_whole}
use Rattle.journal.proofs.Coming.{next-some}
use Rattle.journal.proofs.Replays.{itself, behind-nil, behind_spelled_then, first_step}
use Rattle.journal.proofs.Tails.{tail_of_record, front_of_record, part_of_record}
use Rattle.journal.proofs.Sequences.{all_spelled-append, with_first, with_records-append}
use Rattle.journal.proofs.FirstParts.{first_is_taken, first_of_nothing, first_within, first_beyond, first_shorter, first_taken, first_further, first_behind}

-- WHERE A RECORD ENDS

-- whole records at the front of some, with just these bytes
pub record Ends (rs : List Record) (bytes : List ℕ) (c d : Contents) : Type 0 where
  pub ahead : List Record
  pub rest : List Record
  pub parted : rs ≡ ahead ++ rest
  pub whole : bytes ≡ all_spelled ahead
  pub makes : with_records ahead c ≡ Some d

ends_at_once : (rs : List Record) (bytes : List ℕ) (c : Contents) → front bytes ≡ None → Gives (behind bytes c) (Ends rs bytes c)
unfolding all_spelled with_records
ends_at_once rs [] c none = rw behind-nil (gives c (record { ahead = []; rest = rs; parted = refl; whole = refl; makes = refl }))
ends_at_once rs (b ∷ bs) c none = record { at = λ d e. let s = (first_step b bs c).at d e in absurd (none-some s.first (sym none ∙ s.read)) }

ends_later : (r : Record) (rs : List Record) (bytes more : List ℕ) (c m : Contents) → bytes ≡ spelled r ++ more → next r c ≡ Some m → Gives (behind more m) (Ends rs more m)
    → Gives (behind more m) (Ends (r ∷ rs) bytes c)
unfolding all_spelled with_records
ends_later r rs bytes more c m is came g = record {
  at = λ d e.
      let s = g.at d e in
      record {
        ahead = r ∷ s.ahead;
        rest = s.rest;
        parted = ap (λ (l : List Record). r ∷ l) s.parted;
        whole = is ∙ ap (λ (l : List ℕ). spelled r ++ l) s.whole;
        makes = rw came s.makes;
      };
}

-- a part of a record is none
part_is_none : (r : Record) (bytes : List ℕ) → FirstPart bytes (spelled r) → length bytes < length (spelled r) → front bytes ≡ None
part_is_none r bytes first lt = ap front (sym (first_is_taken first)) ∙ front_part r (length bytes) lt

-- a first part of the bytes of records that makes anything is that of whole records
pub ends : (rs : List Record) (bytes : List ℕ) (c : Contents) → All CanBeWritten rs → FirstPart bytes (all_spelled rs) → Gives (behind bytes c) (Ends rs bytes c)
unfolding all_spelled
ends [] bytes c can first = ends_at_once [] bytes c (ap front (first_of_nothing first) ∙ front_short [] refl)
ends (r ∷ rs) bytes c can first =
    elim (cases_lt (length bytes) (length (spelled r))) [
      | inl lt ↦ ends_at_once (r ∷ rs) bytes c (part_is_none r bytes (first_within (spelled r) (all_spelled rs) first (omega arith)) lt)
      | inr le ↦
          let t = first_beyond (spelled r) (all_spelled rs) first le in
          let steps : Gives (next r c >>= behind t.more) (Ends (r ∷ rs) bytes c) =
          then _ _ (itself (next r c)) (λ m came. ends_later r rs bytes t.more c m t.is came (ends rs t.more m (All-tail CanBeWritten r rs can) t.first)) in
          let same : behind bytes c ≡ next r c >>= behind t.more = ap (λ (l : List ℕ). behind l c) t.is ∙ behind_spelled_then r t.more c (All-head CanBeWritten r rs can) in
          subst (λ o. Gives o (Ends (r ∷ rs) bytes c)) (sym same) steps
    ]

-- every first part of the bytes of records that can come next is whole records, and then no more than a part of one, which is not refused
pub record Cut (bytes : List ℕ) (c : Contents) : Type 0 where
  pub at : ℕ
  pub made : Contents
  pub within : at ≤ length bytes
  pub holds : behind (take at bytes) c ≡ Some made
  pub short : is_short (drop at bytes) ≡ true
  pub tail : tail_refusal (counts_of made) (drop at bytes) ≡ None

short_part : (r : Record) (bytes : List ℕ) → FirstPart bytes (spelled r) → length bytes < length (spelled r) → is_short bytes ≡ true
short_part r bytes first lt = ap is_short (sym (first_is_taken first)) ∙ spelled_short r (length bytes) lt

part_unrefused : (r : Record) (bytes : List ℕ) (c : Contents) → CanBeWritten r → refusal r (counts_of c) ≡ None → FirstPart bytes (spelled r) → length bytes < length (spelled r)
    → tail_refusal (counts_of c) bytes ≡ None
part_unrefused r bytes c can none first lt = ap (tail_refusal (counts_of c)) (sym (first_is_taken first)) ∙ tail_of_record r (counts_of c) (length bytes) can none lt

cut_later : (r : Record) (bytes more : List ℕ) (c m : Contents) → CanBeWritten r → bytes ≡ spelled r ++ more → next r c ≡ Some m → Cut more m → Cut bytes c
cut_later r bytes more c m can is came t =
    let n = length (spelled r) in
    let front : take (n + t.at) bytes ≡ spelled r ++ take t.at more = ap (take (n + t.at)) is ∙ take-append-add (spelled r) more t.at in
    let rest : drop (n + t.at) bytes ≡ drop t.at more = ap (drop (n + t.at)) is ∙ drop-append-add (spelled r) more t.at in
    record {
      at = n + t.at;
      made = t.made;
      within = omega (arith, ap length is, length-append (spelled r) more, t.within);
      holds = rw (front, behind_spelled_then r (take t.at more) c can, came) t.holds;
      short = rw rest t.short;
      tail = rw rest t.tail;
    }

pub cut : (rs : List Record) (bytes : List ℕ) (c d : Contents) → All CanBeWritten rs → with_records rs c ≡ Some d → FirstPart bytes (all_spelled rs) → Cut bytes c
unfolding all_spelled
cut [] bytes c d can makes first =
    let none : bytes ≡ [] = first_of_nothing first in
    record { at = 0; made = c; within = omega arith; holds = behind-nil c; short = rw none refl; tail = rw none refl }
cut (r ∷ rs) bytes c d can makes first =
    let t = with_first r rs c d makes in
    let here = All-head CanBeWritten r rs can in
    elim (cases_lt (length bytes) (length (spelled r))) [
      | inl lt ↦
          let part = first_within (spelled r) (all_spelled rs) first (omega arith) in
          record { at = 0; made = c; within = omega arith; holds = behind-nil c; short = short_part r bytes part lt; tail = part_unrefused r bytes c here (next-some r c t.value t.first).0 part lt }
      | inr le ↦
          let u = first_beyond (spelled r) (all_spelled rs) first le in
          cut_later r bytes u.more c t.value here u.is t.first (cut rs u.more t.value d (All-tail CanBeWritten r rs can) t.rest u.first)
    ]

-- neither a record that can come next is refused, whatever follows, nor any first part of that
pub unrefused : (r : Record) (rest bytes : List ℕ) (n : Counts) → CanBeWritten r → refusal r n ≡ None → FirstPart bytes (spelled r ++ rest) → front_refusal n bytes ≡ None
unrefused r rest bytes n can none first =
    elim (cases_lt (length bytes) (length (spelled r))) [
      | inl lt ↦ let part = first_within (spelled r) rest first (omega arith) in part_of_record r n bytes part.rest can none part.whole
      | inr le ↦ let u = first_beyond (spelled r) rest first le in ap (front_refusal n) u.is ∙ front_of_record r n u.more can ∙ none
    ]

-- nothing at its front is refused, and nothing behind whole records
unrefused_front : (rs : List Record) (bytes : List ℕ) (c d : Contents) → All CanBeWritten rs → with_records rs c ≡ Some d → FirstPart bytes (all_spelled rs) → front_refusal (counts_of c) bytes ≡ None
unfolding all_spelled
unrefused_front [] bytes c d can makes first = rw (first_of_nothing first) refl
unrefused_front (r ∷ rs) bytes c d can makes first =
    let t = with_first r rs c d makes in
    unrefused r (all_spelled rs) bytes (counts_of c) (All-head CanBeWritten r rs can) (next-some r c t.value t.first).0 first

pub unrefused_behind : (rs : List Record) (bytes : List ℕ) (n : ℕ) (c d m : Contents) → All CanBeWritten rs → with_records rs c ≡ Some m → FirstPart bytes (all_spelled rs) → behind (take n bytes) c ≡ Some d
    → front_refusal (counts_of d) (drop n bytes) ≡ None
unrefused_behind rs bytes n c d m can makes first before =
    let e = (ends rs (take n bytes) c can (first_further (first_taken n bytes) first)).at d before in
    let others : drop (length e.ahead) rs ≡ e.rest = ap (drop (length e.ahead)) e.parted ∙ drop_at e.ahead e.rest (length e.ahead) refl in
    let rest_can : All CanBeWritten e.rest = rw others at (All-drop CanBeWritten (length e.ahead) rs can) in
    let rest_makes : with_records e.rest d ≡ Some m = sym (with_records-append e.ahead e.rest c d e.makes) ∙ ap (λ (l : List Record). with_records l c) (sym e.parted) ∙ makes in
    let parts : bytes ≡ all_spelled e.ahead ++ drop n bytes = sym (take-append-drop n bytes) ∙ ap (λ (l : List ℕ). l ++ drop n bytes) e.whole in
    let all_parts : all_spelled rs ≡ all_spelled e.ahead ++ all_spelled e.rest = ap all_spelled e.parted ∙ all_spelled-append e.ahead e.rest in
    let both : FirstPart (all_spelled e.ahead ++ drop n bytes) (all_spelled e.ahead ++ all_spelled e.rest) = rw (← parts, ← all_parts) first in
    unrefused_front e.rest (drop n bytes) d m rest_can rest_makes (first_behind (all_spelled e.ahead) both)

-- bytes that go as far as more records do not end with a part of one
more_follows : (ahead rest : List Record) (tail : List ℕ) → 0 < length rest → FirstPart (all_spelled (ahead ++ rest)) (all_spelled ahead ++ tail) → is_short tail ≡ false
unfolding all_spelled
more_follows ahead [] tail lt first = absurd (omega arith)
more_follows ahead (r ∷ rest) tail lt first =
    let next = spelled r ++ all_spelled rest in
    let is : tail ≡ next ++ first.rest = append_cancel_left (all_spelled ahead) tail (next ++ first.rest)
    (first.whole ∙ ap (λ (l : List ℕ). l ++ first.rest) (all_spelled-append ahead (r ∷ rest)) ∙ append_assoc (all_spelled ahead) next first.rest) in
    ap is_short (is ∙ append_assoc (spelled r) (all_spelled rest) first.rest) ∙ spelled_whole r (all_spelled rest ++ first.rest)

-- where less than a record follows some records, no others that have their bytes there go further
pub none_missed : (part ahead whole : List Record) (tail : List ℕ) → FirstPart part whole → FirstPart ahead whole → FirstPart (all_spelled part) (all_spelled ahead ++ tail) → is_short tail ≡ true
    → FirstPart part ahead
none_missed part ahead whole tail a b first short =
    elim (cases_lt (length ahead) (length part)) [
      | inr le ↦ first_shorter a b le
      | inl lt ↦
          let t = first_shorter b a (omega arith) in
          let parted : FirstPart (all_spelled (ahead ++ t.rest)) (all_spelled ahead ++ tail) = rw (← t.whole) first in
          let long : is_short tail ≡ false = more_follows ahead t.rest tail (omega (arith, ap length t.whole, length-append ahead t.rest)) parted in
          cc
    ]
