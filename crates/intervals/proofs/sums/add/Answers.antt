use Rattle.std.proofs.Common.{◌+ℤ◌, true}
use Rattle.intervals.proofs.Hulls.{tells_always, full_given}
use Rattle.intervals.proofs.Ranges.{sum_full}
use Rattle.intervals.proofs.sums.add.Goals as goal

pub returns-clause-told : goal.returns-clause-told
returns-clause-told c =
    tells_always ◌+ℤ◌ c.args.left c.args.right _ _ c.cut.result (sum_full c.args.left c.args.right).hull
    (rw (c.sums.ensures.least, c.sums.ensures.greatest) at c.cut.ensures.cut) c.cut.ensures.zero

pub returns-clause-ends : goal.returns-clause-ends
returns-clause-ends c =
    full_given (λ y. true) ◌+ℤ◌ c.args.left c.args.right _ _ c.cut.result.value c.cut.result.may_overflow (sum_full c.args.left c.args.right)
    (rw (c.sums.ensures.least, c.sums.ensures.greatest) at c.cut.ensures.cut)
