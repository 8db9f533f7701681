-- Which files open.
use Rattle.std.proofs.Common.{◌≡◌, ℕ, zero, suc, ◌+◌, ◌-◌, ◌<◌, ◌≤◌, Bool, true, false, cond, List, [], ◌∷◌, ◌++◌, length, take, drop, Option, Some, None, Ok, refl, sym, ap, ◌∙◌, arith, inl, inr}
use Rattle.std.specs.Prelude.{◌⊎◌}
use Rattle.std.proofs.Math.Seq.{take-add}
use Rattle.std.proofs.lemmas.Bool.{cases_lt}
use Rattle.std.proofs.lemmas.List.{append-nil, append_assoc, length-append, length-take, length-drop, take-append-drop, take-append-le, drop-append-le}
use Rattle.std.proofs.lemmas.Option.{none-some, same_Some}
use Rattle.link.proofs.FiveBytes.{IsBytes-take, IsBytes-drop}
use Rattle.journal.specs.declared.record.Record.{Record}
use Rattle.journal.specs.declared.refusal.Refusal.{Refusal}
use Rattle.journal.specs.declared.refusal.Refusal.TheVariants.{Malformed}
use Rattle.journal.specs.declared.error.OpenError.TheVariants.{Damaged}
use Rattle.journal.specs.Records.{AreBytes, spelled, all_spelled}
use Rattle.journal.specs.Contents.{Contents, nothing_yet, counts_of, refusal, with_record, with_records}
use Rattle.journal.specs.Replaying.{front, behind, held, is_short, found, tail_refusal, record_refusal, front_refusal}
use Rattle.journal.specs.Stores.{kept}
use Rattle.journal.specs.Journals.{JournalState, appended, crashed}
use Rattle.journal.specs.Openings.{IsStuck, Whole, Opens}
use Rattle.journal.specs.Durability.{Life, born, appends, crashes, opens, Runs, here, on, FirstPart}
use Rattle.journal.specs.Exactness.{CanBeLeft, OpensWith, Exact}
use Rattle.journal.proofs.RecordLaws.{spelled-long, front_takes, front_short, front-append}
use Rattle.journal.proofs.Coming.{next-some, next-none}
use Rattle.journal.proofs.Replays.{behind-nil, behind-append, behind_takes, first_step, Replay}
use Rattle.journal.proofs.Finds.{fits_there, taken_there}
use Rattle.journal.proofs.Tails.{tail_is_part}
use Rattle.journal.proofs.FirstParts.{first_itself, first_before, first_taken, first_further, first_no_longer, first_is_taken}
use Rattle.journal.proofs.Sequences.{with_first, can_be_written, with_records-append, all_spelled-append}
use Rattle.journal.proofs.Lives.{sound}
use Rattle.journal.proofs.Boundaries.{ends, cut, unrefused, unrefused_behind}

-- WHERE A READER STOPS

-- a record is at the front that can come next
record GoesOn (bytes : List ℕ) (c : Contents) : Type 0 where
  first : Record
  there : front bytes ≡ Some first
  could : refusal first (counts_of c) ≡ None

module _ (bytes : List ℕ) (c : Contents) (g : GoesOn bytes c) where
  whole_there : is_short bytes ≡ true → ⊥
  whole_there short = none-some g.first (sym (front_short bytes short) ∙ g.there)

  unrefused_there : front_refusal (counts_of c) bytes ≡ None
  unrefused_there = by (is_short bytes) refl where
    by : (b : Bool) → is_short bytes ≡ b → cond b (tail_refusal (counts_of c) bytes) (record_refusal (front bytes) (counts_of c)) ≡ None
    by true e = absurd (whole_there e)
    by false e = rw g.there g.could

goes_on : (bytes : List ℕ) (c d : Contents) → 0 < length bytes → behind bytes c ≡ Some d → GoesOn bytes c
goes_on [] c d some e = absurd (omega (arith, some))
goes_on (b ∷ bs) c d some e =
    let s = (first_step b bs c).at d e in
    record { first = s.first; there = s.read; could = (next-some s.first c s.after s.came).0 }

goes_on_there : (xs ys : List ℕ) (c : Contents) → GoesOn xs c → GoesOn (xs ++ ys) c
goes_on_there xs ys c g = record { first = g.first; there = front-append xs ys g.first g.there; could = g.could }

-- where one reader stands another has gone on, if it has come further
gone_on : (bytes : List ℕ) (n k : ℕ) (c e : Contents) → 0 < k → n + k ≤ length bytes → held (take n bytes) ≡ Some c → held (take (n + k) bytes) ≡ Some e → GoesOn (drop n bytes) c
gone_on bytes n k c e some within before after =
    let more = take k (drop n bytes) in
    let all : held (take n bytes ++ more) ≡ Some e = rw take-add at after in
    let rest : behind more c ≡ Some e = rw (behind-append (take n bytes) more nothing_yet c before) at all in
    let g = goes_on more c e (omega (arith, length-take k (drop n bytes), length-drop n bytes)) rest in
    rw take-append-drop at (goes_on_there more (drop k (drop n bytes)) c g)

further : (bytes : List ℕ) (n m : ℕ) (c e : Contents) → m ≤ length bytes → n < m → held (take n bytes) ≡ Some c → held (take m bytes) ≡ Some e → GoesOn (drop n bytes) c
further bytes n m c e within lt before after = let sum : m ≡ n + (m - n) = omega arith in gone_on bytes n (m - n) c e (omega arith) (omega (arith, within)) before (rw sum at after)

record Stops (bytes : List ℕ) (at : ℕ) (c : Contents) : Type 0 where
  within : at ≤ length bytes
  holds : held (take at bytes) ≡ Some c
  no_more : GoesOn (drop at bytes) c → ⊥

module _ (bytes : List ℕ) (n m : ℕ) (c e : Contents) (a : Stops bytes n c) (b : Stops bytes m e) where
  same_place : n ≡ m
  same_place =
      elim (cases_lt n m) [
        | inl lt ↦ absurd (a.no_more (further bytes n m c e b.within lt a.holds b.holds))
        | inr le ↦
            elim (cases_lt m n) [
              | inl lt ↦ absurd (b.no_more (further bytes m n e c a.within lt b.holds a.holds))
              | inr ge ↦ omega arith
            ]
      ]

  same_contents : c ≡ e
  same_contents = same_Some c e (sym a.holds ∙ ap (λ k. held (take k bytes)) same_place ∙ b.holds)

opened_stops : (bytes : List ℕ) (n : ℕ) (c : Contents) → Whole bytes n c → Stops bytes n c
opened_stops bytes n c w = record { within = w.within; holds = w.holds; no_more = λ g. whole_there (drop n bytes) c g w.short }

stuck_stops : (bytes : List ℕ) (n : ℕ) (why : Refusal) (s : IsStuck bytes (Damaged n why)) → Stops bytes n s.0
stuck_stops bytes n why s = record { within = s.1; holds = s.2; no_more = λ g. none-some why (sym (unrefused_there (drop n bytes) s.0 g) ∙ s.3) }

-- with more behind it, too
stuck_stops_there : (bytes more : List ℕ) (n : ℕ) (why : Refusal) (s : IsStuck bytes (Damaged n why)) → AreBytes (bytes ++ more) → Stops (bytes ++ more) n s.0
stuck_stops_there bytes more n why s fits =
    let left : drop n (bytes ++ more) ≡ drop n bytes ++ more = drop-append-le n bytes more s.1 in
    record {
      within = omega (arith, s.1, length-append bytes more);
      holds = ap held (take-append-le n bytes more s.1) ∙ s.2;
      no_more = λ g.
          let t = (front_takes (drop n (bytes ++ more)) (IsBytes-drop n (bytes ++ more) fits)).at g.first g.there in
          let first : FirstPart (drop n bytes) (spelled g.first ++ drop (length (spelled g.first)) (drop n (bytes ++ more))) = rw (← t.0, left) (first_before (drop n bytes) more) in
          none-some why (sym (unrefused g.first _ (drop n bytes) (counts_of s.0) t.1 g.could first) ∙ s.3);
    }

one_answer : (bytes : List ℕ) (n m : ℕ) (c e : Contents) → Whole bytes n c → Whole bytes m e → (n ≡ m) × (c ≡ e)
one_answer bytes n m c e v w =
    let a = opened_stops bytes n c v in
    let b = opened_stops bytes m e w in
    (same_place bytes n m c e a b, same_contents bytes n m c e a b)

one_damage : (bytes : List ℕ) (n m : ℕ) (why who : Refusal) → IsStuck bytes (Damaged n why) → IsStuck bytes (Damaged m who) → (n ≡ m) × (why ≡ who)
one_damage bytes n m why who s t =
    let a = stuck_stops bytes n why s in
    let b = stuck_stops bytes m who t in
    let place = same_place bytes n m s.0 t.0 a b in
    let contents = same_contents bytes n m s.0 t.0 a b in
    (place, same_Some why who (sym s.3 ∙ rw (place, contents) t.3))

one_place : (bytes more : List ℕ) (n m : ℕ) (why who : Refusal) → AreBytes (bytes ++ more) → IsStuck bytes (Damaged n why) → IsStuck (bytes ++ more) (Damaged m who) → n ≡ m
one_place bytes more n m why who fits s t = same_place (bytes ++ more) n m s.0 t.0 (stuck_stops_there bytes more n why s fits) (stuck_stops (bytes ++ more) m who t)

never_both : (bytes : List ℕ) (n m : ℕ) (c : Contents) (why : Refusal) → Whole bytes n c → IsStuck bytes (Damaged m why) → ⊥
never_both bytes n m c why w s =
    let a = opened_stops bytes n c w in
    let b = stuck_stops bytes m why s in
    let place = same_place bytes n m c s.0 a b in
    let contents = same_contents bytes n m c s.0 a b in
    let none : front_refusal (counts_of c) (drop n bytes) ≡ None = rw w.short w.tail in
    none-some why (sym none ∙ rw (place, contents) s.3)

-- WHAT OPENS IS A FIRST PART OF A JOURNAL

-- a part of a record that can come next may follow records
left_behind : (bytes tail : List ℕ) (c : Contents) → Replay bytes nothing_yet c → AreBytes tail → tail_refusal (counts_of c) tail ≡ None → CanBeLeft (bytes ++ tail)
unfolding all_spelled with_records
left_behind bytes [] c t fits none = record { written = t.records; made = c; makes = t.holds; first = rw (append-nil bytes, t.spelled_so) (first_itself (all_spelled t.records)) }
left_behind bytes (b ∷ bs) c t fits none =
    let p = tail_is_part (counts_of c) b bs fits none in
    let came = next-none p.whole c p.could in
    record {
      written = t.records ++ p.whole ∷ [];
      made = with_record p.whole c;
      makes = with_records-append t.records (p.whole ∷ []) nothing_yet c t.holds ∙ rw came refl;
      first = record {
        rest = p.more;
        whole = all_spelled-append t.records (p.whole ∷ []) ∙ rw (append-nil (spelled p.whole), p.spelled_so, ← t.spelled_so) (sym (append_assoc bytes (b ∷ bs) p.more));
      };
    }

opens_only : (bytes : List ℕ) (n : ℕ) (c : Contents) → AreBytes bytes → Whole bytes n c → CanBeLeft bytes
opens_only bytes n c fits w =
    let t = (behind_takes (take n bytes) nothing_yet (IsBytes-take n bytes fits)).at c w.holds in
    rw (take-append-drop n bytes) at (left_behind (take n bytes) (drop n bytes) c t (IsBytes-drop n bytes fits) w.tail)

opened : (was now : JournalState) (c : Contents) → Opens was now c → (rs : List Record) × (now.bytes ≡ all_spelled rs) × (with_records rs nothing_yet ≡ Some c)
opened was now c o =
    let t = (behind_takes (take o.whole o.read) nothing_yet (IsBytes-take o.whole o.read o.are_bytes)).at c o.can.holds in
    (t.records, ap (λ (j : JournalState). j.bytes) o.opened ∙ t.spelled_so, t.holds)

-- AND EVERY FIRST PART OF A JOURNAL OPENS

opens_all : (rs : List Record) (d : Contents) (bytes : List ℕ) → with_records rs nothing_yet ≡ Some d → FirstPart bytes (all_spelled rs) → OpensWith bytes rs
opens_all rs d bytes makes first =
    let can = can_be_written rs nothing_yet d (omega arith) makes in
    let t = cut rs bytes nothing_yet d can makes first in
    let e = (ends rs (take t.at bytes) nothing_yet can (first_further (first_taken t.at bytes) first)).at t.made t.holds in
    record {
      whole = t.at;
      contents = t.made;
      can = record { within = t.within; holds = t.holds; short = t.short; tail = t.tail };
      there = e.ahead;
      is = e.whole;
      makes = e.makes;
      first = record { rest = e.rest; whole = e.parted };
    }

damage : (bytes more : List ℕ) (n : ℕ) (why : Refusal) → IsStuck bytes (Damaged n why) → CanBeLeft (bytes ++ more) → ⊥
damage bytes more n why s l =
    let can = can_be_written l.written nothing_yet l.made (omega arith) l.makes in
    none-some why (sym (unrefused_behind l.written bytes n nothing_yet s.0 l.made can l.makes (first_further (first_before bytes more) l.first) s.2) ∙ s.3)

-- A CRASH CAN LEAVE EACH OF THEM

-- a journal that is open and was never committed
record Reached (bytes : List ℕ) (c : Contents) : Type 0 where
  life : Life
  runs : Runs born life
  journal : life.journal ≡ record { bytes = bytes; all = Some bytes; synced = 0; contents = Some c }

reached_first : Reached [] nothing_yet
unfolding all_spelled with_records
reached_first =
    let now : JournalState = record { bytes = []; all = Some []; synced = 0; contents = Some nothing_yet } in
    let can : Whole [] 0 nothing_yet = record { within = omega arith; holds = behind-nil nothing_yet; short = refl; tail = refl } in
    let first : Opens born.journal now nothing_yet = record { read = []; are_bytes = λ i. omega arith; all_read = refl; whole = 0; can = can; opened = refl } in
    record { life = record { journal = now; written = []; committed = [] }; runs = on here (opens now nothing_yet [] first refl refl); journal = refl }

reached_more : (r : Record) (bytes : List ℕ) (c : Contents) → refusal r (counts_of c) ≡ None → Reached bytes c → Reached (bytes ++ spelled r) (with_record r c)
reached_more r bytes c none t =
    let a = t.life in
    let there : a.journal.contents ≡ Some c = ap (λ (j : JournalState). j.contents) t.journal in
    record {
      life = record { journal = appended r c a.journal; written = a.written ++ r ∷ []; committed = a.committed };
      runs = on t.runs (appends r c there none);
      journal = ap (appended r c) t.journal;
    }

reached_all : (rs : List Record) (bytes : List ℕ) (c d : Contents) → with_records rs c ≡ Some d → Reached bytes c → Reached (bytes ++ all_spelled rs) d
unfolding all_spelled with_records
reached_all [] bytes c d makes t = rw (append-nil bytes, ← same_Some c d makes) t
reached_all (r ∷ rs) bytes c d makes t =
    let u = with_first r rs c d makes in
    let v = next-some r c u.value u.first in
    let more : Reached (bytes ++ spelled r) u.value = rw v.1 at (reached_more r bytes c v.0 t) in
    rw (append_assoc bytes (spelled r) (all_spelled rs)) at (reached_all rs (bytes ++ spelled r) u.value d u.rest more)

can_leave : (bytes : List ℕ) → CanBeLeft bytes → (a : Life) × Runs born a × (a.journal.all ≡ Some bytes)
can_leave bytes l =
    let all = all_spelled l.written in
    let n = length bytes in
    let t = reached_all l.written [] nothing_yet l.made l.makes reached_first in
    let a = t.life in
    let few = first_no_longer l.first in
    let kept_all : kept n 0 (length all) ≡ n = omega (arith, few) in (
      record { journal = crashed n a.journal; written = a.written; committed = a.committed },
      on t.runs (crashes n),
      ap (λ (j : JournalState). (crashed n j).all) t.journal ∙ ap (λ k. Some (take k all)) kept_all ∙ ap Some (first_is_taken l.first),
    )

leaves : (a : Life) → Runs born a → (bytes : List ℕ) × (a.journal.all ≡ Some bytes) × CanBeLeft bytes
leaves a runs = let s = sound a runs in (s.bytes, s.all, record { written = a.written; made = s.made; makes = s.makes; first = s.there })

-- THERE IS ALWAYS AN ANSWER

abbrev Answer : List ℕ → Type 0
Answer bytes = ((n : ℕ) × (c : Contents) × Whole bytes n c) ⊎ ((n : ℕ) × (why : Refusal) × IsStuck bytes (Damaged n why))

-- where a reader comes to that takes in one record more
record Further (bytes : List ℕ) (at : ℕ) : Type 0 where
  now : ℕ
  made : Contents
  more : at < now
  within : now ≤ length bytes
  holds : held (take now bytes) ≡ Some made

module _ (bytes : List ℕ) (at : ℕ) (c : Contents) (within : at ≤ length bytes) (holds : held (take at bytes) ≡ Some c) where
  at_end : is_short (drop at bytes) ≡ true → (o : Option Refusal) → tail_refusal (counts_of c) (drop at bytes) ≡ o → Answer bytes
  at_end short None e = inl (at, c, record { within = within; holds = holds; short = short; tail = e })
  at_end short (Some why) e = inr (at, why, (c, within, holds, rw short e))

  module _ (whole : is_short (drop at bytes) ≡ false) where
    at_record : (r : Record) → front (drop at bytes) ≡ Some r → (o : Option Refusal) → refusal r (counts_of c) ≡ o → Answer bytes ⊎ Further bytes at
    at_record r there (Some why) e = inl (inr (at, why, (c, within, holds, rw (whole, there) e)))
    at_record r there None e =
        let is : found (drop at bytes) ≡ Ok (Some r) = rw (whole, there) refl in
        inr (record {
          now = at + length (spelled r);
          made = with_record r c;
          more = omega (arith, spelled-long r);
          within = fits_there bytes at r within is;
          holds = taken_there bytes at r nothing_yet c (with_record r c) holds is (next-none r c e);
        })

    at_whole : (o : Option Record) → front (drop at bytes) ≡ o → Answer bytes ⊎ Further bytes at
    at_whole None e = inl (inr (at, Malformed, (c, within, holds, rw (whole, e) refl)))
    at_whole (Some r) e = at_record r e (refusal r (counts_of c)) refl

  look : Answer bytes ⊎ Further bytes at
  look = by (is_short (drop at bytes)) refl where
    by : (b : Bool) → is_short (drop at bytes) ≡ b → Answer bytes ⊎ Further bytes at
    by true e = inl (at_end e (tail_refusal (counts_of c) (drop at bytes)) refl)
    by false e = at_whole e (front (drop at bytes)) refl

-- with so many bytes left at most
answer : (left : ℕ) (bytes : List ℕ) (at : ℕ) (c : Contents) → length bytes - at ≤ left → at ≤ length bytes → held (take at bytes) ≡ Some c → Answer bytes
answer zero bytes at c few within holds = elim (look bytes at c within holds) [ inl a ↦ a | inr f ↦ absurd (omega (arith, few, f.more, f.within)) ]
answer (suc n) bytes at c few within holds =
    elim (look bytes at c within holds) [ inl a ↦ a | inr f ↦ answer n bytes f.now f.made (omega (arith, few, f.more, f.within)) f.within f.holds ]

either : (bytes : List ℕ) → Answer bytes
either bytes = answer (length bytes) bytes 0 nothing_yet (omega arith) (omega arith) (behind-nil nothing_yet)

pub exact : Exact
exact = record {
  can_leave = can_leave;
  leaves = leaves;
  opens_only = opens_only;
  opened = opened;
  opens_all = opens_all;
  one_answer = one_answer;
  damage = damage;
  one_damage = one_damage;
  one_place = one_place;
  never_both = never_both;
  either = either;
}
