use Rattle.intervals.specs.Comparisons.{holds}
use Rattle.pram_meaning.specs.Operation.{operate}
use Rattle.abstract_runs.proofs.Splitting.{truth_goes}
use Rattle.abstract_runs.proofs.narrowing_members.narrow_locals_compared.Goals as goal

pub returns : goal.returns
returns c = λ s x y z shows cover left right e g.
    c.in_ok-narrow_local_sides.ensures s x y shows cover left right (c.held.ensures x y
    (truth_goes (operate c.args.operator x y) (holds c.in-Some.comparison x y) c.args.way z (c.in-Some.ensures.same x y) e g))
