-- Leaving out the names commutes with all that is done to texts, replicas and seats.
use Rattle.std.proofs.Common.{◌≡◌, ℕ, ◌+◌, ◌<◌, ◌≤◌, Bool, true, false, cond, leb, List, [], ◌∷◌, ◌++◌, map, length, sym, refl, ap, ◌∙◌, subst, ap₂, None, arith}
use mathlib.Core.List.Memᴰ
use Rattle.std.proofs.lemmas.Bool.{cond_both}
use Rattle.std.proofs.lemmas.Bool.Decides.{nat_tests}
use Rattle.std.proofs.lemmas.List.{length-map, map-append, drop-map}
use Rattle.operation.specs.declared.operation.Operation.TheVariants.{Noop, Insert, Delete}
use Rattle.operation.specs.declared.entry.Entry.{Entry}
use Rattle.operation.specs.declared.entry.Submission.{Submission}
use Rattle.operation.specs.Letters.{◌∈◌}
use Rattle.operation.specs.Edits.{site, apply, Fits, rename}
use Rattle.operation.specs.Entries.{operations, replaced}
use Rattle.operation.specs.Transform.{transform, highest, transformed, Passed, map_passed, through}
use Rattle.operation.specs.Laws.{apply_all, Others}
use Rattle.operation.proofs.Shapes.{Room}
use Rattle.operation.proofs.Tp1.{length-insert_at, length-delete_at}
use Rattle.operation.proofs.Renaming.{renames}
use Rattle.operation.proofs.Bounds.{through_exact, Rooms, length-apply}
use Rattle.text.specs.Texts.{signed, refusal}
use Rattle.text.specs.Coded.{coded}
use Rattle.client.specs.Replicas.{Replica, performed, passed, confirmed, received}
use Rattle.server.specs.Sessions.{Seat, unseen, heard, told, arrival, sender}
use Rattle.network.specs.Written.{Signed, signed as signed_name, written, Named}
use Rattle.network.proofs.Invariants.{Fitting, Mine}
use Rattle.room.specs.Scenes.{Op}
use Rattle.room.specs.Reached.{NamedOp, letter_of, text_of, op_of, entry_of, submission_of, seat_of, replica_of}

-- TEXTS
pub site_of : (o : NamedOp) → site (op_of o) ≡ site o
site_of = (renames (λ (n : Named). n.number)).site

signed_of : (o : NamedOp) → signed (op_of o) ≡ rename letter_of (signed_name o)
signed_of (Noop i) = refl
signed_of (Insert i p x) = refl
signed_of (Delete i p) = refl

pub apply_of : (o : NamedOp) (t : List (Signed Named)) → coded.apply (op_of o) (text_of t) ≡ text_of ((written Named).apply o t)
apply_of o t = ap (λ a. apply a (text_of t)) (signed_of o) ∙ (renames letter_of).apply (signed_name o) t

pub fits_back : (o : NamedOp) (t : List (Signed Named)) → coded.Fits (op_of o) (text_of t) → (written Named).Fits o t
fits_back o t h = (renames letter_of).fits_back (signed_name o) t (subst (λ a. Fits a (text_of t)) (signed_of o) h)

pub apply_all_of : (os : List NamedOp) (t : List (Signed Named)) → apply_all coded (map op_of os) (text_of t) ≡ text_of (apply_all (written Named) os t)
unfolding apply_all
apply_all_of [] t = refl
apply_all_of (o ∷ os) t = ap (apply_all coded (map op_of os)) (apply_of o t) ∙ apply_all_of os ((written Named).apply o t)

-- ONE OPERATION PAST SEVERAL, as long as places have room in 32 bits
place_room : (n : ℕ) (o : NamedOp) (t : List (Signed Named)) → length t + n < highest → (written Named).Fits o t → Room n (op_of o)
place_room n (Noop i) t h f = tt
place_room n (Insert i p x) t h f = omega arith
place_room n (Delete i p) t h f = omega arith

place_rooms : (os : List NamedOp) (t : List (Signed Named)) → length t + length os < highest → Fitting (written Named) os t → Rooms (map op_of os)
unfolding Fitting Rooms
place_rooms [] t h f = tt
place_rooms (o ∷ os) t h f = (place_room 1 o t (omega arith) f.0, place_rooms os ((written Named).apply o t) (omega (arith, length-apply (signed_name o) t f.0)) f.1)

pub through_of : (o : NamedOp) (os : List NamedOp) (t : List (Signed Named)) → length t + length os < highest → (written Named).Fits o t → Fitting (written Named) os t →
    through transformed transformed (op_of o) (map op_of os) ≡ map_passed op_of (through transform transform o os)
through_of o os t h f g =
    through_exact (op_of o) (map op_of os) (subst (λ n. Room n (op_of o)) (sym (length-map os op_of)) (place_room (length os) o t h f)) (place_rooms os t h g)
    ∙ (renames (λ (n : Named). n.number)).late_through o os

-- operations of one site fit in turn, and so do those of other sites
pub mine_fit : (i : ℕ) (os : List NamedOp) (t : List (Signed Named)) → Mine (written Named) i os t → Fitting (written Named) os t
unfolding Fitting Mine
mine_fit i [] t m = tt
mine_fit i (o ∷ os) t m = (m.1, mine_fit i os ((written Named).apply o t) m.2)

pub others_fit : (i : ℕ) (os : List NamedOp) (t : List (Signed Named)) → Others (written Named) i os t → Fitting (written Named) os t
unfolding Fitting Others
others_fit i [] t m = tt
others_fit i (o ∷ os) t m = (m.1, others_fit i os ((written Named).apply o t) m.2)

-- REPLICAS
module _ (o : NamedOp) (r : Replica (written Named)) where
  pub performed_of : replica_of (performed (written Named) o r) ≡ performed coded (op_of o) (replica_of r)
  performed_of = λ j. record { text = sym (apply_of o r.text) j; pending = map-append op_of r.pending (o ∷ []) j; revision = r.revision }

pub confirmed_of : (r : Replica (written Named)) → replica_of (confirmed (written Named) r) ≡ confirmed coded (replica_of r)
confirmed_of r = λ j. record { text = text_of r.text; pending = sym (drop-map op_of 1 r.pending) j; revision = r.revision + 1 }

-- t: the text that the entry o fits, and under all that is pending
module _ (o : NamedOp) (r : Replica (written Named)) (t : List (Signed Named)) (short : length t + length r.pending < highest)
    (fits : (written Named).Fits o t) (fitting : Fitting (written Named) r.pending t) where
  pub passed_of : passed coded (op_of o) (replica_of r) ≡ map_passed op_of (passed (written Named) o r)
  passed_of = through_of o r.pending t short fits fitting

  pub received_of : replica_of (received (written Named) o r) ≡ received coded (op_of o) (replica_of r)
  received_of = sym (ap (λ (p : Passed _). record { text = coded.apply p.one (text_of r.text); pending = p.others; revision = r.revision + 1 }) passed_of
      ∙ ap (λ u. record { text = u; pending = map op_of (passed (written Named) o r).others; revision = r.revision + 1 }) (apply_of (passed (written Named) o r).one r.text))

-- SEATS
pub cond_of : {A B : Type 0} (f : A → B) (b : Bool) (x y : A) → f (cond b x y) ≡ cond b (f x) (f y)
cond_of f true x y = refl
cond_of f false x y = refl

pub operations_of : (es : List (Entry NamedOp)) → operations (map entry_of es) ≡ map op_of (operations es)
operations_of [] = refl
operations_of (e ∷ es) = ap (◌∷◌ (op_of e.op)) (operations_of es)

pub unseen_of : (r : ℕ) (es : List (Entry NamedOp)) → unseen r (map entry_of es) ≡ map entry_of (unseen r es)
unfolding unseen
unseen_of r [] = refl
unseen_of r (e ∷ es) = ap (λ us. cond (leb r e.place) (entry_of e ∷ us) us) (unseen_of r es) ∙ sym (cond_of (map entry_of) (leb r e.place) (e ∷ unseen r es) (unseen r es))

pub replaced_of : (es : List (Entry NamedOp)) (os : List NamedOp) → replaced (map entry_of es) (map op_of os) ≡ map entry_of (replaced es os)
unfolding replaced
replaced_of [] os = refl
replaced_of (e ∷ es) [] = refl
replaced_of (e ∷ es) (o ∷ os) = ap (◌∷◌ (record { place = e.place; op = op_of o })) (replaced_of es os)

pub length-unseen : {O : Type 0} (r : ℕ) (es : List (Entry O)) → length (unseen r es) ≤ length es
unfolding unseen
length-unseen r [] = omega arith
length-unseen r (e ∷ es) = let i = length-unseen r es in
    cond_both (leb r e.place) (e ∷ unseen r es) (unseen r es) (λ us. length us ≤ length (e ∷ es)) (λ h. omega arith) (λ h. omega arith)

pub heard_of : (r : ℕ) (s : Seat NamedOp) → seat_of (heard r s) ≡ heard r (seat_of s)
heard_of r s = λ j. record { connected = s.connected; said = r; concurrent = sym (unseen_of r s.concurrent) j }

pub told_of : (e : Entry NamedOp) (s : Seat NamedOp) → seat_of (told e s) ≡ told (entry_of e) (seat_of s)
told_of e s = cond_of seat_of s.connected (record { connected = true; said = s.said; concurrent = s.concurrent ++ e ∷ [] }) s
    ∙ ap (λ es. cond s.connected (record { connected = true; said = s.said; concurrent = es }) (seat_of s)) (map-append entry_of s.concurrent (e ∷ []))

-- t: the text that the operation fits, and under all that its client has not seen
module _ (m : Submission NamedOp) (s : Seat NamedOp) (t : List (Signed Named)) (short : length t + length s.concurrent < highest)
    (fits : (written Named).Fits m.op t) (fitting : Fitting (written Named) (operations (unseen m.revision s.concurrent)) t) where
  pub arrival_of : arrival coded (submission_of m) (seat_of s) ≡ map_passed op_of (arrival (written Named) m s)
  arrival_of =
      let us = unseen m.revision s.concurrent in
      let few : length t + length (operations us) < highest = omega (arith, length-map us (λ (e : Entry NamedOp). e.op), length-unseen m.revision s.concurrent) in
      ap (λ es. through transformed transformed (op_of m.op) (operations es)) (unseen_of m.revision s.concurrent)
      ∙ ap (through transformed transformed (op_of m.op)) (operations_of us) ∙ through_of m.op (operations us) t few fits fitting

  pub sender_of : seat_of (sender (written Named) m s) ≡ sender coded (submission_of m) (seat_of s)
  sender_of = ap (λ es. record { connected = s.connected; said = m.revision; concurrent = es })
      (sym (replaced_of (unseen m.revision s.concurrent) (arrival (written Named) m s).others)
      ∙ ap₂ (λ (es : _) (p : Passed _). replaced es p.others) (sym (unseen_of m.revision s.concurrent)) (sym arrival_of))

-- REFUSALS: an operation is done to a text with room for n letters exactly if it fits, its letter is one, and there is room
abbrev pub IsLetter : Signed Named → Type 0
IsLetter x = (1 ≤ x.letter.number) × (x.letter.number ≤ 1114111)

pub only_one : {A : Type 0} (P : A → Type 0) (y x : A) → P y → x ∈ y ∷ [] → P x
only_one P y x h (Memᴰ.head e) = subst P (sym e) h
only_one P y x h (Memᴰ.tail m) = elim m [ ]

pub refusal_none : (n : ℕ) (o : NamedOp) (t : List (Signed Named)) → (written Named).Fits o t → ((x : Signed Named) → x ∈ (written Named).puts o → IsLetter x) →
    ((x : Signed Named) → x ∈ (written Named).puts o → length t < n) → refusal n (op_of o) (text_of t) ≡ None
refusal_none n (Noop i) t f l r = refl
refusal_none n (Insert i p x) t f l r =
    let h = l _ (Memᴰ.head refl) in
    let m : length t < n = r _ (Memᴰ.head refl) in
    rw length-map (grind (arith, nat_tests))
refusal_none n (Delete i p) t f l r = rw length-map (grind (arith, nat_tests))

pub none_fits : (n : ℕ) (o : NamedOp) (t : List (Signed Named)) → refusal n (op_of o) (text_of t) ≡ None → (written Named).Fits o t
none_fits n (Noop i) t e = tt
none_fits n (Insert i p x) t e = let k = rw length-map at e in grind (arith, nat_tests, k)
none_fits n (Delete i p) t e = let k = rw length-map at e in grind (arith, nat_tests, k)

pub none_letter : (n : ℕ) (o : NamedOp) (t : List (Signed Named)) → refusal n (op_of o) (text_of t) ≡ None → (x : Signed Named) → x ∈ (written Named).puts o → IsLetter x
none_letter n (Noop i) t e x m = elim m [ ]
none_letter n (Insert i p y) t e x m = only_one IsLetter _ x (grind (arith, nat_tests)) m
none_letter n (Delete i p) t e x m = elim m [ ]

pub none_room : (n : ℕ) (o : NamedOp) (t : List (Signed Named)) → refusal n (op_of o) (text_of t) ≡ None → (x : Signed Named) → x ∈ (written Named).puts o → length t < n
none_room n (Noop i) t e x m = elim m [ ]
none_room n (Insert i p y) t e x m = let k = rw length-map at e in grind (arith, nat_tests, k)
none_room n (Delete i p) t e x m = elim m [ ]

-- what is not refused leaves a text that is not too long
pub none_length : (n : ℕ) (o : NamedOp) (t : List (Signed Named)) → length t ≤ n → refusal n (op_of o) (text_of t) ≡ None → length ((written Named).apply o t) ≤ n
none_length n (Noop i) t h e = h
none_length n (Insert i p x) t h e = let r = none_room n (Insert i p x) t e _ (Memᴰ.head refl) in omega (arith, length-insert_at p (record { letter = x; site = i }) t)
none_length n (Delete i p) t h e = let f = none_fits n (Delete i p) t e in omega (arith, length-delete_at p t f)

-- A NAME for a letter: how many were typed before it
abbrev pub naming : ℕ → Op → NamedOp
naming s o = rename (λ x. record { number = x; serial = s }) o

pub naming_of : (s : ℕ) (o : Op) → op_of (naming s o) ≡ o
naming_of s (Noop i) = refl
naming_of s (Insert i p x) = refl
naming_of s (Delete i p) = refl
