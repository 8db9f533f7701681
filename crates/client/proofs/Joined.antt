-- A client's three arrays, read and written as one list of operations.
use Rattle.std.proofs.Common.{◌≡◌, ℕ, zero, suc, ◌+◌, ◌-◌, ◌<◌, ◌≤◌, List, [], ◌∷◌, ◌++◌, length, get_or, take, drop, set, sym, refl, ap, ◌∙◌, arith}
use lib.Seq.{paste, take-set-lt}
use Rattle.std.proofs.lemmas.List.{get_or-take, length-take-le, length-drop, take_more_set, drop-take}
use Rattle.std.proofs.lemmas.List.Edits.{take-paste}
use Rattle.operation.specs.declared.operation.Operation.{Operation}
use Rattle.operation.specs.declared.operation.Operation.TheVariants.{Noop}
use Rattle.operation.specs.Edits.{site}
use Rattle.client.specs.declared.kind.Kind.{Kind}
use Rattle.client.specs.declared.kind.Kind.TheVariants as kind
use Rattle.client.specs.declared.pending.Pending.{Pending}
use Rattle.client.specs.Pendings.{operation, joined, pendings}

length-joined : (s : ℕ) (ks : List Kind) (ps xs : List ℕ) → length ps ≡ length ks → length xs ≡ length ks → length (joined s ks ps xs) ≡ length ks
unfolding joined
length-joined s [] ps xs h l = refl
length-joined s (k ∷ ks) [] xs h l = absurd (omega arith)
length-joined s (k ∷ ks) (p ∷ ps) [] h l = absurd (omega arith)
length-joined s (k ∷ ks) (p ∷ ps) (x ∷ xs) h l = ap suc (length-joined s ks ps xs (omega arith) (omega arith))

get_or-joined : (s : ℕ) (ks : List Kind) (ps xs : List ℕ) (i : ℕ) → i < length ks → i < length ps → i < length xs →
    get_or (joined s ks ps xs) i (Noop 0) ≡ operation s (get_or ks i kind.Noop) (get_or ps i 0) (get_or xs i 0)
unfolding joined
get_or-joined s [] ps xs i h l m = absurd (omega arith)
get_or-joined s (k ∷ ks) [] xs i h l m = absurd (omega arith)
get_or-joined s (k ∷ ks) (p ∷ ps) [] i h l m = absurd (omega arith)
get_or-joined s (k ∷ ks) (p ∷ ps) (x ∷ xs) zero h l m = refl
get_or-joined s (k ∷ ks) (p ∷ ps) (x ∷ xs) (suc i) h l m = get_or-joined s ks ps xs i (omega arith) (omega arith) (omega arith)

-- an operation that is made of the arrays is of their site
pub own : (s : ℕ) (k : Kind) (p x : ℕ) → site (operation s k p x) ≡ s
own s kind.Noop p x = refl
own s kind.Insert p x = refl
own s kind.Delete p x = refl

set-joined : (s : ℕ) (ks : List Kind) (ps xs : List ℕ) (i : ℕ) (k : Kind) (p x : ℕ) →
    joined s (set ks i k) (set ps i p) (set xs i x) ≡ set (joined s ks ps xs) i (operation s k p x)
unfolding joined
set-joined s [] ps xs i k p x = refl
set-joined s (y ∷ ks) [] xs zero k p x = refl
set-joined s (y ∷ ks) [] xs (suc i) k p x = refl
set-joined s (y ∷ ks) (z ∷ ps) [] zero k p x = refl
set-joined s (y ∷ ks) (z ∷ ps) [] (suc i) k p x = refl
set-joined s (y ∷ ks) (z ∷ ps) (w ∷ xs) zero k p x = refl
set-joined s (y ∷ ks) (z ∷ ps) (w ∷ xs) (suc i) k p x = ap (◌∷◌ (operation s y z w)) (set-joined s ks ps xs i k p x)

take-joined : (n s : ℕ) (ks : List Kind) (ps xs : List ℕ) → take n (joined s ks ps xs) ≡ joined s (take n ks) (take n ps) (take n xs)
unfolding joined
take-joined zero s ks ps xs = refl
take-joined (suc n) s [] ps xs = refl
take-joined (suc n) s (k ∷ ks) [] xs = refl
take-joined (suc n) s (k ∷ ks) (p ∷ ps) [] = refl
take-joined (suc n) s (k ∷ ks) (p ∷ ps) (x ∷ xs) = ap (◌∷◌ (operation s k p x)) (take-joined n s ks ps xs)

joined_no_places : (s : ℕ) (ks : List Kind) (xs : List ℕ) → joined s ks [] xs ≡ []
unfolding joined
joined_no_places s [] xs = refl
joined_no_places s (k ∷ ks) xs = refl

joined_no_letters : (s : ℕ) (ks : List Kind) (ps : List ℕ) → joined s ks ps [] ≡ []
unfolding joined
joined_no_letters s [] ps = refl
joined_no_letters s (k ∷ ks) [] = refl
joined_no_letters s (k ∷ ks) (p ∷ ps) = refl

drop-joined : (s : ℕ) (ks : List Kind) (ps xs : List ℕ) → joined s (drop 1 ks) (drop 1 ps) (drop 1 xs) ≡ drop 1 (joined s ks ps xs)
unfolding joined
drop-joined s [] ps xs = refl
drop-joined s (k ∷ ks) [] xs = joined_no_places s ks (drop 1 xs)
drop-joined s (k ∷ ks) (p ∷ ps) [] = joined_no_letters s ks ps
drop-joined s (k ∷ ks) (p ∷ ps) (x ∷ xs) = refl

-- all but the first of the first n, moved down by one
pub moved_down : {X : Type 0} (n : ℕ) (l m : List X) → 0 < n → n ≤ length l → m ≡ paste l 0 (drop 1 l) (n - 1) → take (n - 1) m ≡ drop 1 (take n l)
moved_down n l m h k e =
    let d = length-drop 1 l in
    let z : 0 + (n - 1) ≡ n - 1 = omega arith in
    let o : 1 + (n - 1) ≡ n = omega arith in
    ap (take (n - 1)) e ∙ ap (λ j. take j (paste l 0 (drop 1 l) (n - 1))) (sym z) ∙ take-paste l 0 (drop 1 l) (n - 1) (omega arith) (omega arith)
    ∙ sym (drop-take 1 (n - 1) l) ∙ ap (λ j. drop 1 (take j l)) o

module _ (c : Pending) where
  abbrev all : List (Operation ℕ)
  all = joined c.site c.kinds c.places c.letters

  length-all : length all ≡ 256
  length-all = length-joined c.site c.kinds c.places c.letters (omega arith) (omega arith) ∙ c.sized.0

  pub length-pendings : length (pendings c) ≡ c.count
  length-pendings = let e = length-all in length-take-le c.count all (omega arith)

  -- one operation is read
  pub read : (i : ℕ) → i < c.count → operation c.site (get_or c.kinds i kind.Noop) (get_or c.places i 0) (get_or c.letters i 0) ≡ get_or (pendings c) i (Noop 0)
  read i h =
      sym (get_or-take c.count all i (Noop 0) h ∙ get_or-joined c.site c.kinds c.places c.letters i (omega arith) (omega arith) (omega arith))

  -- one is written
  pub written : (i : ℕ) (k : Kind) (p x : ℕ) → i < c.count →
      take c.count (joined c.site (set c.kinds i k) (set c.places i p) (set c.letters i x)) ≡ set (pendings c) i (operation c.site k p x)
  written i k p x h =
      ap (take c.count) (set-joined c.site c.kinds c.places c.letters i k p x) ∙ take-set-lt c.count all i (operation c.site k p x) h

  -- one more, which is written
  pub pushed : (o : Operation ℕ) → c.count < 256 → set (take (c.count + 1) all) c.count o ≡ pendings c ++ o ∷ []
  pushed o h = let e = length-all in sym (take-set-lt (c.count + 1) all c.count o (omega arith)) ∙ take_more_set all c.count o (omega arith)

  -- the first is gone
  pub shifted : (ks : List Kind) (ps xs : List ℕ) → take (c.count - 1) ks ≡ drop 1 (take c.count c.kinds) →
      take (c.count - 1) ps ≡ drop 1 (take c.count c.places) → take (c.count - 1) xs ≡ drop 1 (take c.count c.letters) →
      take (c.count - 1) (joined c.site ks ps xs) ≡ drop 1 (pendings c)
  shifted ks ps xs k p x =
      let ks' = take c.count c.kinds in
      let ps' = take c.count c.places in
      let xs' = take c.count c.letters in
      take-joined (c.count - 1) c.site ks ps xs ∙ ap (λ l. joined c.site l (take (c.count - 1) ps) (take (c.count - 1) xs)) k
      ∙ ap (λ l. joined c.site (drop 1 ks') l (take (c.count - 1) xs)) p ∙ ap (joined c.site (drop 1 ks') (drop 1 ps')) x
      ∙ drop-joined c.site ks' ps' xs' ∙ ap (drop 1) (sym (take-joined c.count c.site c.kinds c.places c.letters))

-- what a proof about one place of the list needs
pub ruleset lengths = (length-pendings)
