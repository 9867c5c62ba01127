use Rattle.barrier_laws.proofs.Steps.{never_sticks, nobody_is_two_ahead}
use Rattle.barrier_laws.proofs.laws.the_barrier_never_sticks.Goals as goal

pub returns-clause-progress : goal.returns-clause-progress
returns-clause-progress c = never_sticks

pub returns-clause-together : goal.returns-clause-together
returns-clause-together c = nobody_is_two_ahead
