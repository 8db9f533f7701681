use Rattle.std.proofs.Common.{◌≡◌, ◌-◌, length, take, sym, ap, ◌∙◌, ap₂, arith}
use Rattle.std.proofs.lemmas.List.{with_items_is}
use Rattle.operation.specs.Edits.{delete_at}
use Rattle.text.specs.Texts.{paired}
use Rattle.text.specs.Documents.{TextState, with_letters}
use Rattle.text.proofs.Pairs.{take-paired}
use Rattle.text.proofs.Views.{sizes}
use Rattle.text.proofs.document.Document.delete.Goals as goal

pub returns : goal.returns
returns c =
    let p = c.args.place in
    let d = c.self.inside in
    let n = length c.as_mut_slice.result.now - 1 in
    let s = sizes c.self.inside c.args.self.now c.self.view_is c.self.invariant in
    let left : c.len-left.result - 1 ≡ n = omega arith in
    ap₂ (λ ys rs. record { letters = paired ys rs; room = d.room })
    (c.truncate.ensures.items ∙ ap₂ take left (with_items_is d.letters c.delete.new.letters (omega arith)))
    (c.truncate-2.ensures.items ∙ ap₂ take left (with_items_is d.sites c.delete.new.sites (omega arith)))
    ∙ ap (λ ls. record { letters = ls; room = d.room })
    (sym (take-paired n c.delete.new.letters c.delete.new.sites) ∙ c.delete.ensures
    ∙ ap₂ (λ xs ss. delete_at p (paired xs ss)) c.as_mut_slice.ensures.value c.as_mut_slice-2.ensures.value)
    ∙ ap (λ (t : TextState). with_letters (delete_at p t.letters) t) c.self.view_is
