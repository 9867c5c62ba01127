use Rattle.std.proofs.Common.{◌≡◌, Ok, pos, subst}
use Rattle.std.specs.Prelude.{slice_index_or}
use Rattle.pram_meaning.specs.Operation.{operate}
use Rattle.abstract_runs.proofs.Stepping.{sum_steps, sum_steps_behind, difference_steps}
use Rattle.abstract_runs.proofs.steps.is_step_by.Goals as goal

pub returns-then-are_variable_and_small : goal.returns-then-are_variable_and_small
returns-then-are_variable_and_small c = λ yes s l r z left right gives.
    sum_steps l r z (slice_index_or s.uniforms c.args.x (pos 0)) (c.are_variable_and_small.ensures yes s l r left right)
    (subst (λ o. operate o l r ≡ Ok z) c.in-Add.is gives)

pub returns-else-are_variable_and_small : goal.returns-else-are_variable_and_small
returns-else-are_variable_and_small c = λ yes s l r z left right gives.
    sum_steps_behind l r z (slice_index_or s.uniforms c.args.x (pos 0))
    (c.are_variable_and_small-else-are_variable_and_small.ensures yes s r l right left)
    (subst (λ o. operate o l r ≡ Ok z) c.in-Add.is gives)

pub returns-in-Subtract : goal.returns-in-Subtract
returns-in-Subtract c = λ yes s l r z left right gives.
    difference_steps l r z (slice_index_or s.uniforms c.args.x (pos 0)) (c.are_variable_and_small-in-Subtract.ensures yes s l r left right)
    (subst (λ o. operate o l r ≡ Ok z) c.in-Subtract.is gives)
