use Rattle.intervals.specs.Comparisons.{holds}
use Rattle.pram_meaning.specs.Operation.{operate}
use Rattle.abstract_runs.proofs.Splitting.{truth_goes}
use Rattle.abstract_runs.proofs.narrowing_sides.narrow_compared.Goals as goal

pub returns-clause-kept : goal.returns-clause-kept
returns-clause-kept c = λ m x y z stands left right e g.
    c.in_ok-on.ensures.kept m x y stands left right (c.held.ensures x y
    (truth_goes (operate c.args.operator x y) (holds c.in-Some.comparison x y) c.args.way z (c.in-Some.ensures.same x y) e g))
