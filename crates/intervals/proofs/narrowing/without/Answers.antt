use Rattle.std.proofs.Common.{rules, refl}
use Rattle.intervals.proofs.Ends.{fact_passed, le_passed}
use Rattle.intervals.proofs.Narrowings.{AreAbove, AreBelow, AreOthers, without_above, without_below}
use Rattle.intervals.proofs.narrowing.without.Goals as goal

others_above : (c : goal.After-above) → AreOthers c.args.operand c.above.result c.args.value
others_above c =
    without_above c.args.operand c.above.result c.args.value
    (rw c.least.ensures at (le_passed c.args.value c.least.result c.ranges.value (search rules) c.if-value-least.true))
    (fact_passed (AreAbove c.args.operand c.above.result) c.args.value c.args.value c.ranges.value c.above.ensures refl)

others_below : (c : goal.After-below) → AreOthers c.args.operand c.below.result c.args.value
others_below c =
    without_below c.args.operand c.below.result c.args.value
    (rw c.greatest.ensures at (le_passed c.greatest.result c.args.value (search rules) c.ranges.value c.if-greatest-value.true))
    (fact_passed (AreBelow c.args.operand c.below.result) c.args.value c.args.value c.ranges.value c.below.ensures refl)

pub returns-then-value-least-clause-kept : goal.returns-then-value-least-clause-kept
returns-then-value-least-clause-kept c = (others_above c).kept

pub returns-then-greatest-value-clause-kept : goal.returns-then-greatest-value-clause-kept
returns-then-greatest-value-clause-kept c = (others_below c).kept

pub returns-then-greatest-value-clause-reached : goal.returns-then-greatest-value-clause-reached
returns-then-greatest-value-clause-reached c = (others_below c).reached
