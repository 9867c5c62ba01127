use Rattle.intervals.proofs.Rests.{alone_is}
use Rattle.intervals.proofs.remainders.is_zero_alone.Goals as goal

pub returns : goal.returns
returns c = alone_is c.args.operand c.point.result c.is_within.result c.point.ensures.member c.is_within.ensures
