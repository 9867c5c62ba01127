use Rattle.intervals.proofs.Points.{point_given}
use Rattle.intervals.proofs.operation.operate.Goals as goal

pub returns-clause-point : goal.returns-clause-point
returns-clause-point c =
    point_given c.args.operator c.args.left c.args.right c.by_operator.result c.by_operator.ensures.told c.by_operator.ensures.reached
