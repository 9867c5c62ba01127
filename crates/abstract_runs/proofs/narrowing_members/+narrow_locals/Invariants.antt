use Rattle.pram_meaning.specs.Store.{View}
use Rattle.all_inputs.specs.Overall.{Cover}
use Rattle.abstract_runs.specs.Covers.{Shows}
use Rattle.abstract_runs.specs.Tests.{ComesTo}
use Rattle.abstract_runs.proofs.narrowing_members.+narrow_locals.Given as goal

-- what is left so far holds where the test came out so
abbrev pub invariant-loop-link : goal.invariant-loop-link
invariant-loop-link l = (s : View) → Shows l.known s → Cover l.fn.locals.items s.locals → ComesTo s l.e l.way → Cover l.locals.items s.locals
