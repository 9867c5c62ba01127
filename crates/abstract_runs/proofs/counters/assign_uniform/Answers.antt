use Rattle.pram_meaning.specs.Store.{with_uniform}
use Rattle.abstract_runs.proofs.Standings.{stands_on}
use Rattle.abstract_runs.proofs.counters.assign_uniform.Goals as goal

pub returns-clause-stands : goal.returns-clause-stands
returns-clause-stands c = λ p m v h begun value i.
    stands_on c.count_uniform.new.known c.hold_back.new.known c.hold_back.ensures.known (with_uniform c.args.x v m)
    (c.count_uniform.ensures.stands p m v h begun value i)
