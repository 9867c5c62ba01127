use Rattle.std.proofs.Common.{◌∷◌, [], ◌++◌, length, get_or, ap, ◌∙◌, arith}
use Rattle.std.proofs.lemmas.List.FromFn.{length-range_with_len}
use Rattle.renaming.proofs.Given.{range_next, own_number}
use Rattle.renaming.proofs.numbers.own_numbers.Goals as goal

pub loop-r-preserved : goal.loop-r-preserved
loop-r-preserved c = c.in_ok-push.ensures.items ∙ ap (λ xs. xs ++ c.loop-r.r ∷ []) c.loop-r.invariant ∙ range_next c.loop-r.r

pub returns-clause-long : goal.returns-clause-long
returns-clause-long c =
    let long = ap length c.loop-r.invariant ∙ length-range_with_len 0 c.loop-r.r in
    omega (arith, long, c.loop-r-test.false, c.loop-r.auto.r-end)

pub returns-clause-own : goal.returns-clause-own
returns-clause-own c = λ r. ap (λ xs. get_or xs r r) c.loop-r.invariant ∙ own_number c.loop-r.r r
