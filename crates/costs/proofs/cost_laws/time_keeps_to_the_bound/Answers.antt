use Rattle.costs.proofs.Timed.{goes_on_before_the_time, time_is_the_least_bound}
use Rattle.costs.proofs.cost_laws.time_keeps_to_the_bound.Goals as goal

pub returns-clause-ends : goal.returns-clause-ends
returns-clause-ends c = time_is_the_least_bound

pub returns-clause-before : goal.returns-clause-before
returns-clause-before c = goes_on_before_the_time
