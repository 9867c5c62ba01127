use Rattle.std.proofs.Common.{sym, subst}
use Rattle.pram_meaning.specs.Store.{seen}
use Rattle.pram_meaning.specs.Together.{assigned}
use Rattle.abstract_runs.specs.Standing.{StandsFor}
use Rattle.abstract_runs.proofs.Begun.{value_given}
use Rattle.abstract_runs.proofs.counters.store.Goals as goal

pub returns-in-Uniform-clause-stands : goal.returns-in-Uniform-clause-stands
returns-in-Uniform-clause-stands c = λ p m t g h begun gives given.
    subst (λ x. StandsFor c.assign_uniform.new.known (assigned x g m)) (sym c.in-Uniform.is)
    (c.assign_uniform.ensures.stands p m g.value h begun
    (value_given (seen p m) c.args.target.now c.in-Uniform.x c.args.e.now t g c.in-Uniform.is gives) given.value)
