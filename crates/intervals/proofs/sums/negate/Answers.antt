use Rattle.std.proofs.Common.{neg_ℤ, true}
use Rattle.intervals.proofs.Hulls.{tells_always, full_given}
use Rattle.intervals.proofs.Ranges.{negative_full}
use Rattle.intervals.proofs.sums.negate.Goals as goal

pub returns-clause-told : goal.returns-clause-told
returns-clause-told c =
    tells_always (λ x y. neg_ℤ x) c.args.operand c.args.operand _ _ c.cut.result (negative_full c.args.operand).hull
    (rw (c.negatives.ensures.least, c.negatives.ensures.greatest) at c.cut.ensures.cut) c.cut.ensures.zero

pub returns-clause-ends : goal.returns-clause-ends
returns-clause-ends c =
    full_given (λ y. true) (λ x y. neg_ℤ x) c.args.operand c.args.operand _ _ c.cut.result.value c.cut.result.may_overflow (negative_full c.args.operand)
    (rw (c.negatives.ensures.least, c.negatives.ensures.greatest) at c.cut.ensures.cut)
