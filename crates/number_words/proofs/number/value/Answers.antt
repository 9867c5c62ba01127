use Rattle.std.proofs.Common.{◌<◌, ◌-◌, ◌/◌, get_or, subst, ◌∙◌}
use Rattle.pram_tokens.proofs.Values.{exceeds}
use Rattle.number_words.proofs.number.value.Goals as goal

pub returns-then-n-most : goal.returns-then-n-most
returns-then-n-most c =
    let most = c.args.most in
    let over : (most - (get_or c.args.digits.now c.loop-b.b-index 0 - 48)) / 10 < c.loop-b.n =
    subst (λ d. (most - d) / 10 < c.loop-b.n) (c.from-digit.ensures ∙ c.saturating_sub.ensures) c.if-n-most.true in
    record {
      value = subst (λ v. most < v) c.loop-b.invariant.0
          (exceeds c.loop-b.n c.loop-b.b-index most c.args.digits.now c.loop-b-test.true over);
    }
