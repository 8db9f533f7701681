use Rattle.std.proofs.Common.{◌≡◌, refl, subst}
use Rattle.std.specs.Prelude.{IfOk}
use Rattle.link.specs.Messages.{text}
use Rattle.link.specs.Shown.{sheet_to_send}
use Rattle.link.specs.Spelling.{headed, spelled, sealed}
use Rattle.link.proofs.Pairs.{length-paired, spellable}
use Rattle.link.proofs.writing.text_bytes.Goals as goal

pub returns : goal.returns
returns c =
    let t = c.args.text in
    let count = length-paired t.letters.now t.sites.now (spellable t.letters.now t.sites.now c.requires).same in
    let whole : c.put_letters.new.out.items ≡ headed 84 c.args.connection c.args.number (spelled c.args.connection (text (sheet_to_send t))) =
    rw (c.in_ok-put_letters.ensures, c.in_ok-put_text_head.ensures, c.in_ok-out.ensures, count) refl in
    subst (λ bytes. IfOk c.seal.result (λ v. v.items ≡ sealed bytes)) whole c.seal.ensures
