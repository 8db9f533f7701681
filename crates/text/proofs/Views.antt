-- What is known of a document's fields, read from its text.
use Rattle.std.proofs.Common.{◌≡◌, ◌≤◌, length, vec_capacity, sym, ap, ◌∙◌, arith}
use Rattle.text.specs.declared.document.Document.TheInside.{Inside}
use Rattle.text.specs.contracts.document.Document.{the_view, the_invariant}
use Rattle.text.specs.Texts.{numbers, authors}
use Rattle.text.specs.Documents.{TextState}
use Rattle.text.proofs.Pairs.{length-paired, numbers-paired, authors-paired}

pub record Sizes (d : Inside) (t : TextState) : Type 0 where
  pub letters : length d.letters.items ≡ length t.letters
  pub sites : length d.sites.items ≡ length t.letters
  pub few : length t.letters ≤ t.room
  pub room : d.room ≡ t.room
  pub letters_memory : t.room ≤ vec_capacity d.letters
  pub sites_memory : t.room ≤ vec_capacity d.sites

pub sizes : (d : Inside) (t : TextState) → the_view d ≡ t → the_invariant d → Sizes d t
sizes d t e i =
    let l = length-paired d.letters.items d.sites.items in
    let long = ap (λ (v : TextState). length v.letters) e in
    let room = ap (λ (v : TextState). v.room) e in
    record {
      letters = omega arith;
      sites = omega arith;
      few = omega arith;
      room = room;
      letters_memory = omega arith;
      sites_memory = omega arith;
    }

-- each vector, read from the text
pub numbers_are : (d : Inside) (t : TextState) → the_view d ≡ t → the_invariant d → d.letters.items ≡ numbers t.letters
numbers_are d t e i = sym (numbers-paired _ _ i.level) ∙ ap (λ (v : TextState). numbers v.letters) e

pub authors_are : (d : Inside) (t : TextState) → the_view d ≡ t → the_invariant d → d.sites.items ≡ authors t.letters
authors_are d t e i = sym (authors-paired _ _ i.level) ∙ ap (λ (v : TextState). authors v.letters) e
