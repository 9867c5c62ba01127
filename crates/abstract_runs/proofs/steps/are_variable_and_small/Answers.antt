use Rattle.abstract_runs.proofs.steps.are_variable_and_small.Goals as goal

pub returns-then-is_variable : goal.returns-then-is_variable
returns-then-is_variable c = λ small s y r one other.
    (c.is_variable.ensures c.if-is_variable.true s y one, c.is_small.ensures small s r other)
