use Rattle.pram_meaning.specs.Store.{seen}
use Rattle.abstract_runs.proofs.counters.count_uniform.Goals as goal

pub returns-then-is_step_of-clause-stands : goal.returns-then-is_step_of-clause-stands
returns-then-is_step_of-clause-stands c = λ p m v h begun value i.
    c.step_uniform.ensures.stands m v h begun (c.is_step_of.ensures c.if-is_step_of.true (seen p m) v value) i
