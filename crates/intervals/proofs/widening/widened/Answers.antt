use Rattle.intervals.proofs.Marks.{fewer_outside}
use Rattle.intervals.proofs.widening.widened.Goals as goal

pub returns-clause-ends : goal.returns-clause-ends
returns-clause-ends c =
    fewer_outside c.args.old c.args.new c.grown.result c.args.marks.now c.grown.ensures.old c.grown.ensures.least_moves c.grown.ensures.greatest_moves
