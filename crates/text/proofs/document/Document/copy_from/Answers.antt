use Rattle.std.proofs.Common.{rules, ◌≡◌, [], length, ap, ◌∙◌, ap₂, arith}
use Rattle.std.proofs.lemmas.List.{nil_from_length}
use Rattle.std.proofs.lemmas.Bool.{le-leb}
use Rattle.text.specs.Texts.{paired}
use Rattle.text.specs.Documents.{TextState, with_letters}
use Rattle.text.proofs.Views.{sizes}
use Rattle.text.proofs.document.Document.copy_from.Goals as goal

pub invariant_of-self : goal.invariant_of-self
invariant_of-self c =
    let s = sizes c.self.inside c.clear.new.self c.self.view_is c.self.invariant in
    let o = sizes c.other.inside c.args.other.now c.other.view_is c.other.invariant in
    let room = ap (λ (t : TextState). t.room) c.clear.ensures in
    let none = ap (λ (t : TextState). length t.letters) c.clear.ensures in
    search rules

pub returns-clause-text : goal.returns-clause-text
returns-clause-text c =
    let s = sizes c.self.inside c.clear.new.self c.self.view_is c.self.invariant in
    let o = sizes c.other.inside c.args.other.now c.other.view_is c.other.invariant in
    let none = ap (λ (t : TextState). length t.letters) c.clear.ensures in
    let room = ap (λ (t : TextState). t.room) c.clear.ensures in
    let no_letters : c.self.inside.letters.items ≡ [] = nil_from_length _ (omega arith) in
    let no_sites : c.self.inside.sites.items ≡ [] = nil_from_length _ (omega arith) in
    let xs : c.extend_from_slice.new.self.items ≡ c.other.inside.letters.items = search rules in
    let ss : c.extend_from_slice-2.new.self.items ≡ c.other.inside.sites.items = search rules in
    rw (le-leb (length c.args.other.now.letters) c.args.self.now.room (omega arith))
    (ap₂ (λ ys rs. record { letters = paired ys rs; room = c.self.inside.room }) xs ss
    ∙ ap₂ (λ (o t : TextState). with_letters o.letters t) c.other.view_is (c.self.view_is ∙ c.clear.ensures))
