use Rattle.std.proofs.Common.{◌<◌, ◌-◌, ◌/◌, get_or, subst, ◌∙◌}
use Rattle.pram_tokens.specs.Lexemes.{largest}
use Rattle.pram_tokens.proofs.Values.{exceeds}
use Rattle.sized_texts.proofs.front.value.Goals as goal

pub returns-then-n-digit : goal.returns-then-n-digit
returns-then-n-digit c =
    let over : (largest - (get_or c.args.digits.now c.loop-b.b-index 0 - 48)) / 10 < c.loop-b.n =
    subst (λ d. (largest - d) / 10 < c.loop-b.n) (c.from-digit.ensures ∙ c.saturating_sub.ensures) c.if-n-digit.true in
    subst (λ v. largest < v) c.loop-b.invariant.0
    (exceeds c.loop-b.n c.loop-b.b-index largest c.args.digits.now c.loop-b-test.true over)
