-- A part more has been read, and the whole records in it are taken in.
use Rattle.std.proofs.Common.{◌≡◌, ℕ, suc, ◌+◌, ◌-◌, ◌<◌, ◌≤◌, Bool, true, false, cond, List, [], ◌∷◌, ◌++◌, length, take, drop, Option, Some, None, nat_lt, ◌==◌, refl, sym, ap, ◌∙◌, arith}
use Rattle.std.proofs.lemmas.List.{take-append-drop, take-append-le, length-take, length-drop, length-append, append_assoc, drop-take, drop-append-le}
use Rattle.std.proofs.lemmas.List.Edits.{take-paste}
use Rattle.std.specs.Prelude.{IfSome}
use Rattle.std.proofs.lemmas.Bool.{ltb-true}
use Rattle.std.proofs.lemmas.Option.{same_Some}
use Rattle.std.specs.List.{copy_within}
use Rattle.std.proofs.Math.Seq.{take-append-add, drop-append-add}
use Rattle.journal.specs.declared.refusal.Refusal.{Refusal}
use Rattle.journal.specs.declared.error.OpenError.{OpenError}
use Rattle.journal.specs.declared.error.OpenError.TheVariants.{Damaged, Store, OutOfMemory}
use Rattle.link.proofs.FiveBytes.{IsBytes-take}
use Rattle.journal.specs.Records.{AreBytes, width}
use Rattle.journal.specs.Contents.{Contents, nothing_yet, counts_of}
use Rattle.journal.specs.Replaying.{held, behind, is_short, front_refusal}
use Rattle.journal.specs.Openings.{known, Blames, Reads, IsStuck}
use Rattle.journal.proofs.Bytes.{IsBytes-append}
use Rattle.journal.proofs.RecordLaws.{short_is, whole_front}
use Rattle.journal.proofs.Replays.{behind-nil, behind-append}

width_most : (b w : ℕ) → width b ≡ Some w → w ≤ 15
width_most b w e = by (b == 2) (b == 6) e where
  by : (two six : Bool) → cond two (Some 15) (cond six (Some 5) None) ≡ Some w → w ≤ 15
  by true six e = omega (arith, same_Some _ _ e)
  by false true e = omega (arith, same_Some _ _ e)
  by false false e = absurd cc

pub short_few : (bytes : List ℕ) → is_short bytes ≡ true → length bytes < 15
short_few [] short = omega arith
short_few (b ∷ bs) short = by (width b) refl where
  by : (o : Option ℕ) → width b ≡ o → suc (length bs) < 15
  by None e = absurd (let no : is_short (b ∷ bs) ≡ false = rw e refl in cc)
  by (Some w) e = let below : nat_lt (suc (length bs)) w ≡ true = sym (short_is b w bs e) ∙ short in omega (arith, ltb-true _ _ below, width_most b w e)

-- what is whole and refused is damage whatever is behind it

stuck_before : (bytes more : List ℕ) (n : ℕ) (why : Refusal) → IsStuck bytes (Damaged n why) → is_short (drop n bytes) ≡ false → IsStuck (bytes ++ more) (Damaged n why)
stuck_before bytes more n why s whole =
    let t = whole_front more (drop n bytes) whole in
    let same : front_refusal (counts_of s.0) (drop n bytes ++ more) ≡ front_refusal (counts_of s.0) (drop n bytes) = rw (t.0, t.1, whole) refl in
    (s.0, omega (arith, s.1, length-append bytes more), ap held (take-append-le n bytes more s.1) ∙ s.2, ap (front_refusal (counts_of s.0)) (drop-append-le n bytes more s.1) ∙ same ∙ s.3)

known_stuck : (all : Option (List ℕ)) (bytes : List ℕ) (n : ℕ) (why : Refusal) → IfSome all (λ xs. bytes ≡ take (length bytes) xs) → IsStuck bytes (Damaged n why) → is_short (drop n bytes) ≡ false
    → IsStuck (known all bytes) (Damaged n why)
known_stuck None bytes n why begins s whole = s
known_stuck (Some xs) bytes n why begins s whole =
    let all : bytes ++ drop (length bytes) xs ≡ xs = ap (λ (l : List ℕ). l ++ drop (length bytes) xs) begins ∙ take-append-drop (length bytes) xs in
    rw all at (stuck_before bytes (drop (length bytes) xs) n why s whole)

-- what was left of the part before and what is read now, of which `got` bytes are new
module _ (bytes news buffer part rest : List ℕ) (at left got : ℕ) (c : Contents) (r : Reads bytes buffer at left c) (gots : got ≤ length part) (read : news ≡ bytes ++ take got part) where
  abbrev unread : List ℕ
  unread = take (left + got) (take left buffer ++ (part ++ rest))

  unread_is : unread ≡ drop at bytes ++ take got part
  unread_is =
      let size : length (take left buffer) ≡ left = omega (arith, length-take left buffer, r.fits) in
      ap (λ n. take (n + got) (take left buffer ++ (part ++ rest))) (sym size) ∙ take-append-add (take left buffer) (part ++ rest) got ∙ ap (λ (more : List ℕ). take left buffer ++ more) (take-append-le got part rest gots) ∙ ap (λ (front : List ℕ). front ++ take got part) (sym r.ahead)

  all_is : news ≡ take at bytes ++ unread
  all_is = read ∙ ap (λ (all : List ℕ). all ++ take got part) (sym (take-append-drop at bytes)) ∙ append_assoc (take at bytes) (drop at bytes) (take got part) ∙ ap (λ (more : List ℕ). take at bytes ++ more) (sym unread_is)

  front_size : length (take at bytes) ≡ at
  front_size = omega (arith, length-take at bytes, r.within)

  taken_is : (n : ℕ) → take (at + n) news ≡ take at bytes ++ take n unread
  taken_is n = ap (take (at + n)) all_is ∙ ap (λ k. take (k + n) (take at bytes ++ unread)) (sym front_size) ∙ take-append-add (take at bytes) unread n

  left_is : (n : ℕ) → drop (at + n) news ≡ drop n unread
  left_is n = ap (drop (at + n)) all_is ∙ ap (λ k. drop (k + n) (take at bytes ++ unread)) (sym front_size) ∙ drop-append-add (take at bytes) unread n

  goes_on : (n : ℕ) (d : Contents) → behind (take n unread) c ≡ Some d → held (take (at + n) news) ≡ Some d
  goes_on n d made = rw taken_is (behind-append (take at bytes) (take n unread) _ c r.held ∙ made)

  within : (n : ℕ) → n ≤ length unread → at + n ≤ length news
  within n le = omega (arith, ap length all_is, length-append (take at bytes) unread, front_size)

  pub stuck : (all : Option (List ℕ)) (e : OpenError) (d : Contents) → IfSome all (λ xs. news ≡ take (length news) xs)
      → (n : ℕ) × (n ≤ length unread) × (behind (take n unread) c ≡ Some d) × (is_short (drop n unread) ≡ false) × Blames e (at + n) (front_refusal (counts_of d) (drop n unread)) → IsStuck (known all news) e
  stuck all (Damaged m why) d begins (n, le, made, whole, blames) =
      known_stuck all news m why begins (d, rw blames.0 (within n le), rw blames.0 (goes_on n d made), rw (blames.0, left_is n) blames.1) (rw (blames.0, left_is n) whole)
  stuck all (Store e) d begins (n, le, made, whole, blames) = absurd blames
  stuck all OutOfMemory d begins found = tt

  -- the buffer, in which what is left has been moved to the front
  module _ (taken : ℕ) (d : Contents) (le : taken ≤ length unread) (made : behind (take taken unread) c ≡ Some d) (short : is_short (drop taken unread) ≡ true) where
    abbrev shifted : List ℕ
    shifted = copy_within (take left buffer ++ (part ++ rest)) taken (left + got) 0

    unread_size : length unread ≡ left + got
    unread_size = omega (arith, length-take (left + got) (take left buffer ++ (part ++ rest)), length-append (take left buffer) (part ++ rest), length-append part rest, length-take left buffer, r.fits)

    front_is : take (left + got - taken) shifted ≡ drop taken unread
    front_is =
        let fits : left + got - taken ≤ length (drop taken (take left buffer ++ (part ++ rest))) = omega (arith, length-drop taken (take left buffer ++ (part ++ rest)), length-append (take left buffer) (part ++ rest), length-append part rest, length-take left buffer, r.fits) in
        let sum : taken + (left + got - taken) ≡ left + got = omega (arith, unread_size) in
        ap (λ k. take k shifted) (omega arith) ∙ take-paste (take left buffer ++ (part ++ rest)) 0 (drop taken (take left buffer ++ (part ++ rest))) (left + got - taken) (omega arith) fits
        ∙ sym (ap (λ k. drop taken (take k (take left buffer ++ (part ++ rest)))) (sym sum) ∙ drop-take taken (left + got - taken) (take left buffer ++ (part ++ rest)))

    pub more : AreBytes unread → (now : List ℕ) → now ≡ shifted → length now ≡ length (take left buffer ++ (part ++ rest)) → Reads news now (at + taken) (left + got - taken) d
    more are now is size = record {
      are_bytes = rw all_is (IsBytes-append (take at bytes) unread (IsBytes-take at bytes r.are_bytes) are);
      within = within taken le;
      held = goes_on taken d made;
      ahead = left_is taken ∙ sym (ap (take (left + got - taken)) is ∙ front_is);
      few = omega (arith, short_few (drop taken unread) short, length-drop taken unread, unread_size);
      fits = omega (arith, size, length-append (take left buffer) (part ++ rest), length-append part rest, length-take left buffer, r.fits);
      short = rw left_is short;
    }

-- nothing has been read yet
pub nothing_read : (bytes buffer : List ℕ) (c : Contents) → bytes ≡ [] → c ≡ nothing_yet → Reads bytes buffer 0 0 c
nothing_read bytes buffer c none first = rw (none, first) (record { are_bytes = λ i. omega arith; within = omega arith; held = behind-nil nothing_yet; ahead = refl; few = omega arith; fits = omega arith; short = refl })
