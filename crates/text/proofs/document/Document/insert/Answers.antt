use Rattle.std.proofs.Common.{◌-◌, length, take, ap, ◌∙◌, ap₂, arith}
use Rattle.std.proofs.lemmas.List.{with_items_is}
use Rattle.operation.specs.Edits.{insert_at}
use Rattle.text.specs.Texts.{Letter, paired}
use Rattle.text.specs.Documents.{TextState, with_letters}
use Rattle.text.proofs.Pairs.{paired-pushed}
use Rattle.text.proofs.Views.{sizes}
use Rattle.text.proofs.document.Document.insert.Goals as goal

pub invariant_of-self : goal.invariant_of-self
invariant_of-self c =
    let s = sizes c.self.inside c.args.self.now c.self.view_is c.self.invariant in
    let xs = ap length (with_items_is c.push_reserved.new.self c.insert.new.letters (omega arith)) in
    let ss = ap length (with_items_is c.push_reserved-2.new.self c.insert.new.sites (omega arith)) in
    record { level = omega arith; few = omega arith; letters_room = omega arith; sites_room = omega arith }

pub returns : goal.returns
returns c =
    let p = c.args.place in
    let x : Letter = record { number = c.args.letter; site = c.args.site } in
    let d = c.self.inside in
    ap₂ (λ ys rs. record { letters = paired ys rs; room = d.room })
    (with_items_is c.push_reserved.new.self c.insert.new.letters (omega arith)) (with_items_is c.push_reserved-2.new.self c.insert.new.sites (omega arith))
    ∙ ap (λ ls. record { letters = ls; room = d.room })
    (c.insert.ensures ∙ ap₂ (λ xs ss. insert_at p x (take (length xs - 1) (paired xs ss)))
    (c.as_mut_slice.ensures.value ∙ c.push_reserved.ensures.items) (c.as_mut_slice-2.ensures.value ∙ c.push_reserved-2.ensures.items)
    ∙ ap (insert_at p x) (paired-pushed d.letters.items d.sites.items c.args.letter c.args.site c.self.invariant.level))
    ∙ ap (λ (t : TextState). with_letters (insert_at p x t.letters) t) c.self.view_is
