use Rattle.std.proofs.Common.{rules}
use Rattle.intervals.proofs.Ends.{fact_passed}
use Rattle.intervals.proofs.Narrowings.{AreOthers, narrowed_unequal}
use Rattle.intervals.proofs.narrowing.differing.Goals as goal

pub returns-then-is_point : goal.returns-then-is_point
returns-then-is_point c =
    narrowed_unequal c.args.left c.args.right c.without.result (c.is_point.ensures.0 c.if-is_point.true)
    (fact_passed (AreOthers c.args.left c.without.result) c.least.result c.args.right.least (search rules)
    (record { kept = c.without.ensures.kept; within = c.without.ensures.within; reached = c.without.ensures.reached }) c.least.ensures)
