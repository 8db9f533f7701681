use Rattle.std.proofs.Common.{length, take, drop, rules, ap, ◌∙◌, arith}
use Rattle.std.proofs.lemmas.Bool.Decides.{nat_tests}
use Rattle.script.proofs.WordsOf.{words_of-blanks, words_of-step}
use Rattle.script.proofs.words.WordsIterator.next.Goals as goal

pub returns-then-is_empty-clause-steps : goal.returns-then-is_empty-clause-steps
returns-then-is_empty-clause-steps c =
    words_of-blanks _ _ _ _ (c.split_at.ensures.back ∙ ap (λ n. drop n c.args.self.now.line.now) c.front_len.ensures.value)
    (c.split_at-2.ensures.front ∙ ap (λ n. take n c.split_at.result.1.now) c.front_len-2.ensures.value)
    (c.split_at-2.ensures.back ∙ ap (λ n. drop n c.split_at.result.1.now) c.front_len-2.ensures.value) (grind (arith, nat_tests))

pub returns-else-is_empty-clause-steps : goal.returns-else-is_empty-clause-steps
returns-else-is_empty-clause-steps c =
    words_of-step _ _ _ _ (c.split_at.ensures.back ∙ ap (λ n. drop n c.args.self.now.line.now) c.front_len.ensures.value)
    (c.split_at-2.ensures.front ∙ ap (λ n. take n c.split_at.result.1.now) c.front_len-2.ensures.value)
    (c.split_at-2.ensures.back ∙ ap (λ n. drop n c.split_at.result.1.now) c.front_len-2.ensures.value) (grind (arith, nat_tests))

pub returns-else-is_empty-clause-goes : goal.returns-else-is_empty-clause-goes
returns-else-is_empty-clause-goes c = let step = returns-else-is_empty-clause-steps c in search (rules, ap length step)
