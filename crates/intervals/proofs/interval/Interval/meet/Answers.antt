use Rattle.std.proofs.Common.{rules, ◌≡◌, to_z, of_z, w64}
use Rattle.std.specs.Int.{int_min, int_max}
use Rattle.intervals.proofs.Ends.{least_passed, greatest_passed}
use Rattle.intervals.proofs.Joins.{meet_is}
use Rattle.intervals.proofs.interval.Interval.meet.Goals as goal

pub returns : goal.returns
returns c =
    let low : to_z w64 (of_z w64 c.max.result) ≡ int_max c.args.self.least c.args.other.least =
    greatest_passed c.args.self.least c.args.other.least c.max.result (search rules) (search rules) (search rules) c.max.ensures.value in
    let high : to_z w64 (of_z w64 c.min.result) ≡ int_min c.args.self.greatest c.args.other.greatest =
    least_passed c.args.self.greatest c.args.other.greatest c.min.result (search rules) (search rules) (search rules) c.min.ensures.value in
    meet_is c.args.self c.args.other c.of.result (rw (low, high) at c.of.ensures.made) (rw (low, high) at c.of.ensures.ends)
