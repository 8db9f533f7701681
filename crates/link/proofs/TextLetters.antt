-- The letters of a text that came as bytes can be said again: there are few enough, and each is a letter.
use Rattle.std.proofs.Common.{◌≡◌, ◌≤◌, length, nat_le, refl, arith}
use Rattle.std.proofs.Math.Bool.{and-true}
use Rattle.std.proofs.lemmas.Bool.{le-leb}
use Rattle.link.specs.declared.letters.Letters.{Letters}
use Rattle.link.specs.declared.message.Snapshot.{Snapshot}
use Rattle.link.specs.Messages.{is_fit_sheet}
use Rattle.link.specs.Shown.{letters_of, sheet_of}
use Rattle.link.proofs.FiveBytes.{fit-letters_at, length-letters_at}

pub few_letters : (l : Letters) → length (letters_of l) ≤ 65536
few_letters l = omega (arith, l.few, length-letters_at l.bytes.now l.fit)

pub is_fit-sheet_of : (s : Snapshot) → nat_le s.site 15 ≡ is_fit_sheet (sheet_of s)
is_fit-sheet_of s =
    rw (le-leb (length (letters_of s.letters)) 65536 (few_letters s.letters), fit-letters_at s.letters.bytes.now s.letters.fit, and-true (nat_le s.site 15)) refl
