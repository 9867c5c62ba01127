use Rattle.std.proofs.Common.{◌≡◌, length, rules, arith, sym, subst, Ok, ap, ◌∙◌}
use Rattle.sized_texts.specs.Expressions.{chain, further, tight}
use Rattle.sized_texts.specs.Reading.{Gives, placed}
use Rattle.sized_texts.specs.Values.{applied}
use Rattle.sized_texts.proofs.Chains.{begins, further_more, further_none, turn}
use Rattle.sized_texts.proofs.expression.+expression.Goals as goal

pub chain-returns-in_err-first-clause-gives : goal.chain-returns-in_err-first-clause-gives
unfolding chain
chain-returns-in_err-first-clause-gives t c = search rules

pub chain-loop-operator-init : goal.chain-loop-operator-init
chain-loop-operator-init t c =
    let Operand = tight c.args.sizes.now (further c.args.sizes.now c.args.depth) c.args.line in (
      length c.past_spaces-rest.result.now,
      omega arith,
      omega (arith, c.in_ok-first.ensures.shorter),
      begins c.args.line Operand _ _ _ _ c.in_ok-first.ensures.gives c.past_spaces-rest.ensures.value,
    )

pub chain-loop-operator-preserved : goal.chain-loop-operator-preserved
chain-loop-operator-preserved t c =
    let Operand = tight c.args.sizes.now (further c.args.sizes.now c.args.depth) c.args.line in
    let makes : placed (length c.loop-operator.rest.now) (applied c.in-Some.operator c.loop-operator.value c.in_ok-operand.operand)
    ≡ Ok c.in_ok-value.value = sym (c.in_ok-value.ensures ∙ ap (placed (length c.loop-operator.rest.now)) c.applied.ensures) in
    let next = turn c.args.line Operand c.loop-operator.invariant.0 _ _ _ c.in-Some.operator _ _ _ _ _ c.loop-operator.invariant.1
    c.in-Some.ensures.operator c.in-Some.ensures.behind c.in-Some.ensures.shorter c.in_ok-operand.ensures.gives makes
    c.past_spaces-rest-in-Some.ensures.value (omega (arith, c.in_ok-operand.ensures.shorter)) c.loop-operator.invariant.3 in
    (next.0, next.1, omega (arith, c.in_ok-operand.ensures.shorter, c.in-Some.ensures.shorter), next.2)

pub inner-returns-then-depth-eq0-clause-gives : goal.inner-returns-then-depth-eq0-clause-gives
inner-returns-then-depth-eq0-clause-gives t c = further_none _ _ _ _ c.if-depth-eq0.true

pub inner-returns-clause-gives : goal.inner-returns-clause-gives
inner-returns-clause-gives t c =
    subst (Gives (λ f. (f.0, f.1.now)) c.chain.result)
    (sym (further_more c.args.sizes.now c.args.depth c.args.left c.args.text.now (omega arith))) c.chain.ensures.gives
