use Rattle.std.proofs.Common.{◌≡◌, ℕ, ◌*◌, take, ap, ◌∙◌, arith}
use Rattle.link.specs.Letters.{are_fit, letters_at}
use Rattle.link.proofs.Windows.{window_more, pass_all}
use Rattle.link.proofs.letters.are_letters_in_windows.Goals as goal

pub loop-i-preserved : goal.loop-i-preserved
loop-i-preserved c =
    window_more c.args.bytes.now c.loop-i.highest c.loop-i.least c.loop-i.i (λ k. omega (arith, c.type_inv.bytes k)) (omega arith) c.loop-i.auto.highest.0 c.loop-i.auto.least.0 c.loop-i.invariant

pub returns : goal.returns
returns c =
    let all : c.loop-i.i ≡ c.args.windows = omega arith in
    pass_all c.loop-i.highest c.loop-i.least c.loop-i.auto.highest.0 c.loop-i.auto.least.0
    ∙ c.loop-i.invariant
    ∙ ap (λ (n : ℕ). are_fit (take (n * 3) (letters_at c.args.bytes.now))) all
