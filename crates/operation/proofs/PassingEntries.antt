-- One operation on its way through a list of entries, which keep their places.
use Rattle.std.proofs.Common.{◌≡◌, ℕ, ◌+◌, ◌<◌, ◌≤◌, List, [], ◌∷◌, map, length, get_or, set, sym, refl, ap, ◌∙◌, arith}
use Rattle.std.proofs.lemmas.List.{map-set, set-get_or, get_or-map, length-map}
use Rattle.operation.specs.declared.entry.Entry.{Entry}
use Rattle.operation.specs.Entries.{operations, replaced}
use Rattle.operation.specs.Transform.{through}
use Rattle.operation.proofs.Passing.{Passing, passing_none, passing_more, passing_all}

module _ {O : Type 0} where
  abbrev pub places : List (Entry O) → List ℕ
  places es = map (λ (e : Entry O). e.place) es

  -- a list has its own operations at the places of another
  replaced_is : (xs ys : List (Entry O)) → places ys ≡ places xs → ys ≡ replaced xs (operations ys)
  unfolding replaced
  replaced_is [] [] e = refl
  replaced_is [] (y ∷ ys) e = absurd (let z : ◌≡◌ {A = ℕ} 0 1 = cc in omega arith)
  replaced_is (x ∷ xs) [] e = absurd (let z : ◌≡◌ {A = ℕ} 0 1 = cc in omega arith)
  replaced_is (x ∷ xs) (y ∷ ys) e =
      let p : y.place ≡ x.place = cc in
      let q : places ys ≡ places xs = cc in
      (λ t. record { place = p t; op = y.op } ∷ replaced_is xs ys q t)

-- `op` went in and is `one` after the first i entries of xs; ys is the list as it then stands
pub record PassingEntries {O : Type 0} (f g : O → O → O) (op one : O) (xs ys : List (Entry O)) (i : ℕ) : Type 0 where
  pub passing : Passing f g op one (operations xs) (operations ys) i
  pub stay : places ys ≡ places xs

module _ {O : Type 0} (f g : O → O → O) where
  pub entries_none : (op : O) (xs : List (Entry O)) → PassingEntries f g op op xs xs 0
  entries_none op xs = record { passing = passing_none f g op (operations xs); stay = refl }

  pub entries_more : (x : Entry O) {op one : O} {xs ys : List (Entry O)} {i : ℕ} → i < length ys → x ≡ get_or ys i x → PassingEntries f g op one xs ys i →
      PassingEntries f g op (f one x.op) xs (set ys i (record { place = x.place; op = g x.op one })) (i + 1)
  entries_more x {op} {one} {xs} {ys} {i} h e p =
      let y : Entry O = record { place = x.place; op = g x.op one } in
      let l = length-map ys (λ (z : Entry O). z.op) in
      let o : x.op ≡ get_or (operations ys) i x.op = ap (λ (z : Entry O). z.op) e ∙ sym (get_or-map (λ (z : Entry O). z.op) ys i x x.op h) in
      let k : x.place ≡ get_or (places ys) i x.place = ap (λ (z : Entry O). z.place) e ∙ sym (get_or-map (λ (z : Entry O). z.place) ys i x x.place h) in
      record {
        passing = rw (map-set (λ (z : Entry O). z.op) ys i y) (passing_more f g x.op x.op (omega arith) o p.passing);
        stay = map-set (λ (z : Entry O). z.place) ys i y ∙ ap (set (places ys) i) k ∙ set-get_or (places ys) i x.place ∙ p.stay;
      }

  pub entries_all : {op one : O} {xs ys : List (Entry O)} {i : ℕ} → length xs ≤ i → PassingEntries f g op one xs ys i →
      (one ≡ (through f g op (operations xs)).one) × (operations ys ≡ (through f g op (operations xs)).others) × (ys ≡ replaced xs (through f g op (operations xs)).others)
  entries_all {op} {one} {xs} {ys} {i} h p =
      let l = length-map xs (λ (z : Entry O). z.op) in
      let e = passing_all f g (omega arith) p.passing in (e.0, e.1, replaced_is xs ys p.stay ∙ ap (replaced xs) e.1)
