-- Parts of a list: what has been read, what is read, and what is left.
use Rattle.std.proofs.Common.{◌≡◌, ℕ, ◌+◌, ◌-◌, ◌≤◌, List, ◌++◌, length, take, drop, ◌==◌, refl, sym, ap, ◌∙◌, arith}
use Rattle.std.specs.Prelude.{IsTrue}
use Rattle.std.proofs.lemmas.List.{length-take, length-drop}
use Rattle.std.proofs.Math.Seq.{take-add, take-append_seam}
use Rattle.journal.specs.StoreLaws.{taken_whole}

module _ {A : Type 0} (r n : ℕ) (xs new more : List A) (fits : n ≤ length xs - r) (is : new ≡ take (r + n - r) (drop r xs)) where
  -- the part of a buffer that was filled
  pub filled : take n (new ++ more) ≡ take n (drop r xs)
  filled =
      let same : new ≡ take n (drop r xs) = is ∙ ap (λ k. take k (drop r xs)) (omega arith) in
      let size : length new ≡ n = ap length same ∙ omega (arith, length-take n (drop r xs), length-drop r xs) in
      ap (λ k. take k (new ++ more)) (sym size) ∙ take-append_seam new more ∙ same

  pub read_more : take (r + n) xs ≡ take r xs ++ take n (new ++ more)
  read_more = rw filled (take-add r n xs)

-- nothing is left
pub all_read : (r : ℕ) (xs : List ℕ) → IsTrue (r == length xs) → length xs ≡ length (take r xs)
all_read r xs end = rw (taken_whole r xs end) refl
