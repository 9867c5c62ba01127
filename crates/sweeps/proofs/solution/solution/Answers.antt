use Rattle.std.proofs.Common.{◌-◌, ◌∙◌, ap, arith, rules}
use Rattle.std.specs.Int.{w128}
use Rattle.std.proofs.lemmas.Int.{to_z-of_z}
use Rattle.sweeps.specs.Solutions.{column_at}
use Rattle.sweeps.proofs.Solved.{next_known, same_formula, small_at, solves}
use Rattle.sweeps.proofs.solution.solution.Goals as goal

pub returns-in-None : goal.returns-in-None
returns-in-None c g small all =
    let step = c.loop-step.step in
    c.in-None.ensures _ (small_at g small (5 - step) (omega arith))
    (solves c.args.pivots.now c.loop-step.known step c.loop-step-test.true c.requires c.loop-step.invariant g all)

pub loop-step-preserved : goal.loop-step-preserved
loop-step-preserved c =
    next_known c.args.pivots.now c.loop-step.known c.loop-step.step c.loop-step-test.true c.requires c.loop-step.invariant
    c.with-known.result c.in-Some.coefficient c.in-Some.ensures
    (λ i less. c.with-known.ensures i less
    ∙ ap (λ x. column_at c.loop-step.known (5 - c.loop-step.step) x i) (to_z-of_z w128 c.in-Some.coefficient (search rules)))

pub returns : goal.returns
returns c g all =
    let last = c.loop-step-test.false in
    same_formula c.loop-step.known g (λ i less. c.loop-step.invariant.found g all i less (omega (arith, last)))
