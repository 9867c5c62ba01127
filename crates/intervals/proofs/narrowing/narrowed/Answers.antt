use Rattle.std.proofs.Common.{rules}
use Rattle.intervals.proofs.Ends.{fact_passed}
use Rattle.intervals.proofs.Narrowings.{AreAtMost, AreAtLeast, AreBelow, AreAbove, narrowed_less, narrowed_at_most, narrowed_greater, narrowed_at_least, narrowed_equal}
use Rattle.intervals.proofs.narrowing.narrowed.Goals as goal

pub returns-in-Equal : goal.returns-in-Equal
returns-in-Equal c = rw c.in-Equal.is (narrowed_equal c.args.left c.args.right c.meet.result c.meet.ensures)

pub returns-in-Unequal : goal.returns-in-Unequal
returns-in-Unequal c = rw c.in-Unequal.is c.differing.ensures

pub returns-in-Less : goal.returns-in-Less
returns-in-Less c = rw c.in-Less.is (narrowed_less c.args.left c.args.right c.below.result
    (fact_passed (AreBelow c.args.left c.below.result) c.greatest.result c.args.right.greatest (search rules) c.below.ensures c.greatest.ensures))

pub returns-in-AtMost : goal.returns-in-AtMost
returns-in-AtMost c = rw c.in-AtMost.is (narrowed_at_most c.args.left c.args.right c.at_most.result
    (fact_passed (AreAtMost c.args.left c.at_most.result) c.greatest-in-AtMost.result c.args.right.greatest (search rules) c.at_most.ensures c.greatest-in-AtMost.ensures))

pub returns-in-Greater : goal.returns-in-Greater
returns-in-Greater c = rw c.in-Greater.is (narrowed_greater c.args.left c.args.right c.above.result
    (fact_passed (AreAbove c.args.left c.above.result) c.least.result c.args.right.least (search rules) c.above.ensures c.least.ensures))

pub returns-in-AtLeast : goal.returns-in-AtLeast
returns-in-AtLeast c = rw c.in-AtLeast.is (narrowed_at_least c.args.left c.args.right c.at_least.result
    (fact_passed (AreAtLeast c.args.left c.at_least.result) c.least-in-AtLeast.result c.args.right.least (search rules) c.at_least.ensures c.least-in-AtLeast.ensures))
