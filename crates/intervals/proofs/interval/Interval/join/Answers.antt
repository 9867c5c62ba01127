use Rattle.std.proofs.Common.{rules}
use Rattle.intervals.proofs.Ends.{least_passed, greatest_passed}
use Rattle.intervals.proofs.Joins.{join_is}
use Rattle.intervals.proofs.interval.Interval.join.Goals as goal

pub returns : goal.returns
returns c = join_is c.args.self c.args.other _
    (least_passed c.args.self.least c.args.other.least c.min.result (search rules) (search rules) (search rules) c.min.ensures.value)
    (greatest_passed c.args.self.greatest c.args.other.greatest c.max.result (search rules) (search rules) (search rules) c.max.ensures.value)
