use Rattle.pram_meaning.specs.Store.{State, seen}
use Rattle.abstract_runs.specs.Following.{Follows}
use Rattle.abstract_runs.specs.Standing.{StandsFor}
use Rattle.abstract_runs.specs.Tests.{ComesTo}
use Rattle.abstract_runs.proofs.narrowing_tests.+narrow.Given as goal

-- each state in which the test came out so is known still
abbrev pub invariant-loop-link : goal.invariant-loop-link
invariant-loop-link l = ((m : State) → StandsFor l.fn.known m → ComesTo (seen l.program m) l.e l.way → StandsFor l.known m)
    × Follows l.fn.known l.known
