use Rattle.scopes.proofs.Steps.{Swept}
use Rattle.scopes.proofs.step.step.Given as goal

-- behind the place, the greatest values are now the least ones
abbrev pub invariant-loop-at : goal.invariant-loop-at
invariant-loop-at l = Swept l.fn.low l.fn.high l.fn.input l.input l.at

abbrev pub decreases-loop-at : goal.decreases-loop-at
decreases-loop-at l = l.at
