-- An operation is taken: the sender's seat is written, and then the sender goes, or the others are told.
use Rattle.std.proofs.Common.{◌≡◌, ℕ, min, Bool, true, false, cond, eqb, List, ◌∷◌, [], ◌++◌, length, Some, None, Ok, Err, Option, refl, ap, ◌∙◌, sym}
use Rattle.std.proofs.lemmas.Bool.{cond-true}
use Rattle.operation.specs.declared.entry.Entry.{Entry}
use Rattle.operation.specs.declared.entry.Submission.{Submission}
use Rattle.operation.specs.declared.operation.Operation.TheVariants.{Noop, Insert, Delete}
use Rattle.operation.specs.Edits.{site, apply}
use Rattle.operation.specs.Entries.{operations}
use Rattle.operation.specs.Transform.{bounded as in_words, transform, transformed, through}
use Rattle.operation.proofs.Shapes.{site_stays}
use Rattle.text.specs.declared.refusal.Refusal.{Refusal as TextRefusal}
use Rattle.text.specs.declared.refusal.Refusal.TheVariants as text
use Rattle.text.specs.Texts.{signed, refusal, unless}
use Rattle.text.specs.Coded.{coded}
use Rattle.server.specs.declared.refusal.Refusal.{Refusal}
use Rattle.server.specs.declared.refusal.Refusal.TheVariants.{NotConnected}
use Rattle.server.specs.Sessions.{Seat, unseen, told, ServerState, arrival, sender}
use Rattle.server.specs.Servers.{Op, bounded, bad_revision, history_full, lowest, answered, added, taken_bounded, with_seat, take_refusal, after_taking, take_answer, take_after}

cond_twice : {A : Type 0} (b : Bool) (x y z : A) → cond b x (cond b y z) ≡ cond b x z
cond_twice true x y z = refl
cond_twice false x y z = refl

cond_others : {A : Type 0} (b : Bool) (F : A → A) (x y : A) → cond b (cond b x y) (F (cond b x y)) ≡ cond b x (F y)
cond_others true F x y = refl
cond_others false F x y = refl

-- a seat that is written twice
pub with_seat_twice : (i : ℕ) (x y : Seat Op) (v : ServerState coded) → with_seat i x (with_seat i y v) ≡ with_seat i x v
with_seat_twice i x y v = λ t. record { text = v.text; history = v.history; seats = λ j. cond_twice (eqb j i) x y (v.seats j) t }

-- what an operation becomes
abbrev pub become : Submission Op → ServerState coded → Op
become m v = (arrival coded m (v.seats (site m.op))).one

pub added_is_taken : (n : ℕ) (m : Submission Op) (v : ServerState coded) → refusal (min n 65536) (become m v) v.text ≡ None →
    added n (site m.op) (become m v) (with_seat (site m.op) (sender coded m (v.seats (site m.op))) v) ≡ taken_bounded (site m.op) m v
added_is_taken n m v none =
    let i = site m.op in
    let s = sender coded m (v.seats i) in
    let e : Entry Op = record { place = length v.history; op = become m v } in
    λ t. record {
      text = ap (λ r. unless r (apply (signed (become m v)) v.text) v.text) none t;
      history = v.history ++ become m v ∷ [];
      seats = λ j. (cond_others (eqb j i) (λ z. bounded (told e z)) s (v.seats j) ∙ sym (cond_others (eqb j i) bounded s (told e (v.seats j)))) t;
    }

-- WHAT IS NOT REFUSED
-- neither the text nor the history has a reason
pub lowest-none : (q : Option TextRefusal) (bad full : Bool) → lowest q bad full ≡ None → (q ≡ None) × (full ≡ false)
lowest-none None true full e = absurd cc
lowest-none None false true e = absurd cc
lowest-none None false false e = (refl, refl)
lowest-none (Some text.BadLetter) bad full e = absurd cc
lowest-none (Some text.BeyondText) bad full e = absurd cc
lowest-none (Some text.TextFull) bad full e = absurd cc

answered-ok : {A : Type 0} (o : Option Refusal) (x y : A) → answered o x ≡ Ok y → (o ≡ None) × (y ≡ x)
answered-ok None x y e = (refl, cc)
answered-ok (Some r) x y e = absurd cc

pub no_reason : (q : Option TextRefusal) (bad full : Bool) → (u : Unit {0}) → answered (lowest q bad full) u ≡ Ok u → q ≡ None
no_reason q bad full u e = (lowest-none q bad full (answered-ok (lowest q bad full) u u e).0).0

-- e is what the server made of an operation that it took
pub record Took (n : ℕ) (m : Submission Op) (v : ServerState coded) (e : Entry Op) : Type 0 where
  pub connected : (v.seats (site m.op)).connected ≡ true
  pub fits : refusal (min n 65536) (become m v) v.text ≡ None
  pub room : history_full (length v.history) ≡ false
  pub is : e ≡ record { place = length v.history; op = become m v }
  pub after : take_after n m v ≡ taken_bounded (site m.op) m v

took_if : (n : ℕ) (m : Submission Op) (v : ServerState coded) (e : Entry Op) (b : Bool) → (v.seats (site m.op)).connected ≡ b
    → cond b (answered (take_refusal n m (v.seats (site m.op)) v) (record { place = length v.history; op = become m v })) (Err NotConnected) ≡ Ok e → Took n m v e
took_if n m v e false off is = absurd cc
took_if n m v e true on is =
    let i = site m.op in
    let t = answered-ok (take_refusal n m (v.seats i) v) _ e is in
    let u = lowest-none (refusal (min n 65536) (become m v) v.text) (bad_revision (length v.history) m.revision (v.seats i)) (history_full (length v.history)) t.0 in
    record { connected = on; fits = u.0; room = u.1; is = t.1; after = cond-true _ _ v on ∙ ap (λ o. after_taking o i m v) t.0 }

pub took : (n : ℕ) (m : Submission Op) (v : ServerState coded) (e : Entry Op) → take_answer n m v ≡ Ok e → Took n m v e
took n m v e is = took_if n m v e (v.seats (site m.op)).connected refl is

-- THE SITE of what an operation becomes is its own
site_in_words : (a : Op) → site (in_words a) ≡ site a
site_in_words (Noop i) = refl
site_in_words (Insert i p x) = refl
site_in_words (Delete i p) = refl

site_through : (a : Op) (bs : List Op) → site (through transformed transformed a bs).one ≡ site a
unfolding through
site_through a [] = refl
site_through a (b ∷ bs) = site_through (transformed a b) bs ∙ site_in_words (transform a b) ∙ site_stays a b

pub site_become : (m : Submission Op) (v : ServerState coded) → site (become m v) ≡ site m.op
site_become m v = site_through m.op (operations (unseen m.revision (v.seats (site m.op)).concurrent))
