use Rattle.std.proofs.Common.{◌-◌, ◌∙◌, sym, subst, arith}
use Rattle.flat_machine.specs.ByExchanges.{State}
use Rattle.flat_machine.specs.ByInstructions.{steps, everywhere}
use Rattle.flat_run.specs.RunViews.{state_of, AreSameStates}
use Rattle.flat_run.proofs.AlikeLemmas.{alike_on, one_step, steps_over, going_is_on}
use Rattle.flat_run.proofs.program.advance.Goals as goal

pub instructions-preserved : goal.instructions-preserved
instructions-preserved c =
    let code = c.args.code.now in
    let bound = c.args.bound in
    let old = state_of c.instructions.run in
    let new = state_of c.step.new.run in
    let rest = c.instructions.left - 1 in (
      c.in_ok-step.ensures.run,
      alike_on (steps code bound everywhere rest new) (steps code bound everywhere c.instructions.left old)
          (steps code bound everywhere c.args.most (state_of c.args.run.now))
          (one_step code bound c.instructions.left rest old new (omega (arith, c.instructions-test.true))
          (going_is_on old.way (sym c.is_on.ensures ∙ c.if-is_on.true)) c.in_ok-step.ensures.state)
          c.instructions.invariant.1,
    )

-- it is over already
pub returns-else-is_on-clause-state : goal.returns-else-is_on-clause-state
returns-else-is_on-clause-state c =
    let code = c.args.code.now in
    let bound = c.args.bound in
    let old = state_of c.instructions.run in
    subst (λ (s : State). AreSameStates s (steps code bound everywhere c.args.most (state_of c.args.run.now)))
    (steps_over code bound c.instructions.left old (sym c.is_on.ensures ∙ c.if-is_on.false))
    c.instructions.invariant.1
