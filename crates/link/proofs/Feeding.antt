-- The server's messages need no queue, and do not change.
use Rattle.std.proofs.Common.{◌≡◌, ℕ, zero, suc, ◌+◌, ◌-◌, ◌^◌, ◌<◌, ◌≤◌, Bool, true, false, List, [], ◌∷◌, ◌++◌, length, take, drop, slice_get, refl, sym, ap, ◌∙◌, arith, ltb, lt-ltb, le-ltb}
use Rattle.std.proofs.lemmas.Bool.{ltb-true, ltb-false, ne_eqb}
use Rattle.std.proofs.lemmas.List.{drop-append-le, length-drop}
use Rattle.std.proofs.lemmas.Option.{slice_get_past}
use Rattle.operation.specs.declared.operation.Operation.{Operation}
use Rattle.link.specs.declared.server_end.Seat.{Seat}
use Rattle.link.specs.Messages.{entry, text, Sheet}
use Rattle.link.specs.ServerSide.{said_in_seat}
use Rattle.link.specs.Lasting.{entries_from, messages_of, entry_with, meant, FeedKeeps}
use Rattle.link.proofs.Places.{slice_get-drop}

-- an entry's place is that of its operation
get-entries_from : (p n : ℕ) (os : List (Operation ℕ)) → slice_get (entries_from p os) n ≡ entry_with (p + n) (slice_get os n)
unfolding entries_from
get-entries_from p n [] = refl
get-entries_from p zero (o ∷ os) = let e : p + 0 ≡ p = omega arith in rw e refl
get-entries_from p (suc n) (o ∷ os) = let e : p + suc n ≡ suc p + n = omega arith in rw e (get-entries_from (suc p) n os)

-- more entries stand behind
take-entries_from : (p : ℕ) (os more : List (Operation ℕ)) → take (length (entries_from p os)) (entries_from p (os ++ more)) ≡ entries_from p os
unfolding entries_from
take-entries_from p [] more = refl
take-entries_from p (o ∷ os) more = ap (λ ms. entry (record { place = p; op = o }) ∷ ms) (take-entries_from (suc p) os more)

length-entries_from : (p : ℕ) (os : List (Operation ℕ)) → length (entries_from p os) ≡ length os
unfolding entries_from
length-entries_from p [] = refl
length-entries_from p (o ∷ os) = ap suc (length-entries_from (suc p) os)

feed : (t : Sheet) (h : List (Operation ℕ)) (x : Seat) (n : ℕ) → x.base ≤ length h → length h < 2 ^ 32 → x.window.total ≡ length h - x.base + 1 →
    meant t h (said_in_seat (suc n) x) ≡ slice_get (messages_of t x.base h) n
feed t h x zero le lt e = rw (le-ltb x.window.total 1 (omega arith)) refl
feed t h x (suc n) le lt e = further (ltb x.window.total (suc (suc n))) refl
  where
    further : (past : Bool) → ltb x.window.total (suc (suc n)) ≡ past → meant t h (said_in_seat (suc (suc n)) x) ≡ slice_get (entries_from x.base (drop x.base h)) n
    further true p = rw (ne_eqb (suc (suc n)) 0 (λ e. absurd (omega arith)), p) (sym (slice_get_past (entries_from x.base (drop x.base h)) n (omega (arith, ltb-true _ _ p, length-entries_from x.base (drop x.base h), length-drop x.base h))))
    further false p =
        let within : suc (suc n) ≤ x.window.total = ltb-false _ _ p in
        let two : suc (suc n) - 2 ≡ n = omega arith in
        let fits : ltb (x.base + n) 4294967296 ≡ true = lt-ltb _ _ (omega arith) in
        rw (ne_eqb (suc (suc n)) 0 (λ e. absurd (omega arith)), p, ne_eqb (suc (suc n)) 1 (λ e. absurd (omega arith)), two, fits) (sym (get-entries_from x.base n (drop x.base h) ∙ ap (entry_with (x.base + n)) (slice_get-drop x.base h n)))

pub feed_keeps : FeedKeeps
feed_keeps = record { numbers = feed; grows = λ t b h more le. ap (λ ms. text t ∷ ms) (ap (λ os. take (length (entries_from b (drop b h))) (entries_from b os)) (drop-append-le b h more le) ∙ take-entries_from b (drop b h) more) }
