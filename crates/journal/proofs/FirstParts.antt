-- First parts of lists.
use Rattle.std.proofs.Common.{◌≡◌, ℕ, ◌≤◌, List, [], ◌++◌, length, take, drop, refl, sym, ap, ◌∙◌, arith}
use Rattle.std.proofs.lemmas.List.{append-nil, append_assoc, append_cancel_left, length-append, take-append-drop, take-append-le, drop-append-le, take_all, take_at, drop_at, nil_from_length}
use Rattle.journal.specs.Durability.{FirstPart}

pub first_itself : {A : Type 0} (xs : List A) → FirstPart xs xs
first_itself xs = record { rest = []; whole = sym (append-nil xs) }

pub first_before : {A : Type 0} (xs ys : List A) → FirstPart xs (xs ++ ys)
first_before xs ys = record { rest = ys; whole = refl }

pub first_taken : {A : Type 0} (n : ℕ) (xs : List A) → FirstPart (take n xs) xs
first_taken n xs = record { rest = drop n xs; whole = sym (take-append-drop n xs) }

pub first_further : {A : Type 0} {xs ys zs : List A} → FirstPart xs ys → FirstPart ys zs → FirstPart xs zs
first_further {A} {xs} {ys} {zs} a b = record { rest = a.rest ++ b.rest; whole = b.whole ∙ ap (λ (l : List A). l ++ b.rest) a.whole ∙ append_assoc xs a.rest b.rest }

pub first_under : {A : Type 0} (xs : List A) {ys zs : List A} → FirstPart ys zs → FirstPart (xs ++ ys) (xs ++ zs)
first_under {A} xs {ys} {zs} a = record { rest = a.rest; whole = ap (λ (l : List A). xs ++ l) a.whole ∙ sym (append_assoc xs ys a.rest) }

pub first_behind : {A : Type 0} (xs : List A) {ys zs : List A} → FirstPart (xs ++ ys) (xs ++ zs) → FirstPart ys zs
first_behind {A} xs {ys} {zs} a = record { rest = a.rest; whole = append_cancel_left xs zs (ys ++ a.rest) (a.whole ∙ append_assoc xs ys a.rest) }

pub first_is_taken : {A : Type 0} {xs ys : List A} → FirstPart xs ys → take (length xs) ys ≡ xs
first_is_taken {A} {xs} {ys} a = rw a.whole (take_at xs a.rest (length xs) refl)

pub first_no_longer : {A : Type 0} {xs ys : List A} → FirstPart xs ys → length xs ≤ length ys
first_no_longer {A} {xs} {ys} a = omega (arith, ap length a.whole, length-append xs a.rest)

pub first_of_nothing : {A : Type 0} {xs : List A} → FirstPart xs [] → xs ≡ []
first_of_nothing {A} {xs} a = let n = first_no_longer a in nil_from_length xs (omega arith)

-- a first part of two lists behind one another goes as far as the first, or into the second

pub first_within : {A : Type 0} {part : List A} (xs ys : List A) → FirstPart part (xs ++ ys) → length part ≤ length xs → FirstPart part xs
first_within {A} {part} xs ys a le =
    let same : take (length part) xs ≡ part = sym (take-append-le (length part) xs ys le) ∙ first_is_taken a in
    record { rest = drop (length part) xs; whole = sym (take-append-drop (length part) xs) ∙ ap (λ (l : List A). l ++ drop (length part) xs) same }

pub record Beyond {A : Type 0} (part xs ys : List A) : Type 0 where
  pub more : List A
  pub is : part ≡ xs ++ more
  pub first : FirstPart more ys

pub first_beyond : {A : Type 0} {part : List A} (xs ys : List A) → FirstPart part (xs ++ ys) → length xs ≤ length part → Beyond part xs ys
first_beyond {A} {part} xs ys a le =
    let n = length xs in
    let front : take n part ≡ xs = sym (take-append-le n part a.rest le) ∙ ap (take n) (sym a.whole) ∙ take_at xs ys n refl in
    record {
      more = drop n part;
      is = sym (take-append-drop n part) ∙ ap (λ (l : List A). l ++ drop n part) front;
      first = record { rest = a.rest; whole = sym (drop_at xs ys n refl) ∙ ap (drop n) a.whole ∙ drop-append-le n part a.rest le };
    }

-- of two first parts of one list the shorter is one of the other
pub first_shorter : {A : Type 0} {xs ys zs : List A} → FirstPart xs zs → FirstPart ys zs → length xs ≤ length ys → FirstPart xs ys
first_shorter {A} {xs} {ys} {zs} a b le =
    let parted : FirstPart ys (xs ++ a.rest) = rw (← a.whole) b in
    let t = first_beyond xs a.rest parted le in
    record { rest = t.more; whole = t.is }

pub first_both : {A : Type 0} {xs ys : List A} → FirstPart xs ys → FirstPart ys xs → xs ≡ ys
first_both {A} {xs} {ys} a b = let le = first_no_longer b in sym (first_is_taken a) ∙ take_all (length xs) ys le
