-- Which record can come next, and what there is of the contents after it.
use Rattle.std.proofs.Common.{◌≡◌, ℕ, ◌<◌, Bool, true, false, cond, List, [], ◌∷◌, length, Option, Some, None, nat_le, nat_lt, ◌==◌, refl, ap, arith, length-append}
use Rattle.std.proofs.lemmas.Bool.{eqb-true, eq-eqb, ltb-true, lt-ltb, leb-false, lt-leb}
use Rattle.operation.specs.declared.operation.Operation.{Operation}
use Rattle.operation.specs.declared.operation.Operation.TheVariants.{Noop, Insert, Delete}
use Rattle.operation.specs.declared.entry.Entry.{Entry as HistoryEntry}
use Rattle.operation.specs.Edits.{apply}
use Rattle.operation.proofs.Tp1.{length-insert_at, length-delete_at}
use Rattle.text.specs.declared.refusal.Refusal.{Refusal as TextRefusal}
use Rattle.text.specs.declared.refusal.Refusal.TheVariants as text
use Rattle.text.specs.Texts.{Letter, signed, refusal_at}
use Rattle.link.specs.Messages.{is_fit_operation}
use Rattle.journal.specs.declared.record.Record.{Record}
use Rattle.journal.specs.declared.record.Record.TheVariants.{Entry, Connection}
use Rattle.journal.specs.declared.refusal.Refusal.{Refusal}
use Rattle.journal.specs.declared.counts.Counts.{Counts}
use Rattle.journal.specs.Contents.{Contents, counts_of, lowest, refusal, with_record, letters_after, counts_after, unless_refused, next}

-- an entry, or a connection, that can come next
pub record EntryCan (e : HistoryEntry (Operation ℕ)) (n : Counts) : Type 0 where
  pub fit : is_fit_operation e.op ≡ true
  pub in_text : refusal_at 65536 n.letters e.op ≡ None
  pub in_order : e.place ≡ n.entries
  pub room : n.entries < 4294967294

pub record ConnectionCan (c : ℕ) (n : Counts) : Type 0 where
  pub above : n.connection < c
  pub room : c < 4294967295

lowest-none : (o : Option TextRefusal) (next full : Bool) → lowest o next full ≡ None → (o ≡ None) × (next ≡ true) × (full ≡ false)
lowest-none None true false e = (refl, refl, refl)
lowest-none None true true e = absurd cc
lowest-none None false full e = absurd cc
lowest-none (Some text.BadLetter) next full e = absurd cc
lowest-none (Some text.BeyondText) next full e = absurd cc
lowest-none (Some text.TextFull) true full e = absurd cc
lowest-none (Some text.TextFull) false full e = absurd cc

pub none_then : {A : Type 0} (b : Bool) (o : Option A) (x : A) → cond b o (Some x) ≡ None → (b ≡ true) × (o ≡ None)
none_then true o x e = (refl, e)
none_then false o x e = absurd cc

none_else : {A : Type 0} (b : Bool) (x : A) (o : Option A) → cond b (Some x) o ≡ None → (b ≡ false) × (o ≡ None)
none_else true x o e = absurd cc
none_else false x o e = (refl, e)

pub entry_can : (e : HistoryEntry (Operation ℕ)) (n : Counts) → refusal (Entry e) n ≡ None → EntryCan e n
entry_can e n none =
    let t = none_then (is_fit_operation e.op) _ _ none in
    let u = lowest-none (refusal_at 65536 n.letters e.op) (e.place == n.entries) (nat_le 4294967294 n.entries) t.1 in
    record { fit = t.0; in_text = u.0; in_order = eqb-true _ _ u.1; room = leb-false _ _ u.2 }

pub entry_can-none : (e : HistoryEntry (Operation ℕ)) (n : Counts) → EntryCan e n → refusal (Entry e) n ≡ None
entry_can-none e n can = rw (can.fit, can.in_text, eq-eqb e.place n.entries can.in_order, lt-leb 4294967294 n.entries can.room) refl

pub connection_can : (c : ℕ) (n : Counts) → refusal (Connection c) n ≡ None → ConnectionCan c n
connection_can c n none =
    let t = none_then (nat_lt n.connection c) _ _ none in
    let u = none_else (nat_le 4294967295 c) _ _ t.1 in
    record { above = ltb-true _ _ t.0; room = leb-false _ _ u.0 }

pub connection_can-none : (c : ℕ) (n : Counts) → ConnectionCan c n → refusal (Connection c) n ≡ None
connection_can-none c n can = rw (lt-ltb n.connection c can.above, lt-leb 4294967295 c can.room) refl

-- WHAT THERE IS AFTER IT

if_unrefused : (o : Option Refusal) (c d : Contents) → unless_refused o c ≡ Some d → (o ≡ None) × (c ≡ d)
if_unrefused None c d e = (refl, cc)
if_unrefused (Some why) c d e = absurd cc

pub next-some : (r : Record) (c d : Contents) → next r c ≡ Some d → (refusal r (counts_of c) ≡ None) × (with_record r c ≡ d)
next-some r c d e = if_unrefused (refusal r (counts_of c)) (with_record r c) d e

pub next-none : (r : Record) (c : Contents) → refusal r (counts_of c) ≡ None → next r c ≡ Some (with_record r c)
next-none r c e = ap (λ (o : Option Refusal). unless_refused o (with_record r c)) e

length-after : (o : Operation ℕ) (t : List Letter) → refusal_at 65536 (length t) o ≡ None → length (apply (signed o) t) ≡ letters_after o (length t)
length-after (Noop i) t e = refl
length-after (Insert i p x) t e = length-insert_at p _ t
length-after (Delete i p) t e =
    let within : p < length t = ltb-true _ _ (none_then (nat_lt p (length t)) None text.BeyondText e).0 in
    omega (arith, length-delete_at p t within)

pub next-counts : (r : Record) (c d : Contents) → next r c ≡ Some d → counts_of d ≡ counts_after r (counts_of c)
next-counts (Entry e) c d is =
    let t = next-some (Entry e) c d is in
    let n = length-append c.history (e.op ∷ []) in
    let l = length-after e.op c.text (entry_can e (counts_of c) t.0).in_text in
    rw (← t.1, l, n) refl
next-counts (Connection n) c d is = rw (← (next-some (Connection n) c d is).1) refl
