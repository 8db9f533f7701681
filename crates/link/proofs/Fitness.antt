-- Letters are fit if their numbers are and their sites are.
use Rattle.std.proofs.Common.{◌≡◌, ℕ, ◌&&◌, ◌==◌, Bool, true, false, leb, List, [], ◌∷◌, length, refl, sym, ap, arith}
use Rattle.std.specs.List.{list_all}
use Rattle.std.proofs.lemmas.Bool.{eqb-true}
use Rattle.text.specs.Texts.{paired}
use Rattle.link.specs.Letters.{is_number, is_site, are_fit, can_be_spelled}

pub regroup : (a b c d : Bool) → ((a && b) && (c && d)) ≡ ((a && c) && (b && d))
regroup true true c d = refl
regroup true false true d = refl
regroup true false false d = refl
regroup false b c d = refl

are_fit-paired : (xs ss : List ℕ) → length xs ≡ length ss → are_fit (paired xs ss) ≡ (list_all is_number xs && list_all is_site ss)
unfolding paired
are_fit-paired [] [] e = refl
are_fit-paired [] (s ∷ ss) e = absurd (omega arith)
are_fit-paired (x ∷ xs) [] e = absurd (omega arith)
are_fit-paired (x ∷ xs) (s ∷ ss) e = rw (are_fit-paired xs ss (omega arith)) (regroup (is_number x) (is_site s) (list_all is_number xs) (list_all is_site ss))

and_under : (a b c d : Bool) → (a ≡ true → d ≡ c) → (a && (b && c)) ≡ (a && (b && d))
and_under true b c d e = ap (λ (x : Bool). b && x) (sym (e refl))
and_under false b c d e = refl

pub tested : (xs ss : List ℕ) → can_be_spelled xs ss ≡ ((length xs == length ss) && (leb (length xs) 65536 && (list_all is_number xs && list_all is_site ss)))
tested xs ss =
    sym (and_under (length xs == length ss) (leb (length xs) 65536) (list_all is_number xs && list_all is_site ss) (are_fit (paired xs ss)) (λ e. are_fit-paired xs ss (eqb-true _ _ e)))
