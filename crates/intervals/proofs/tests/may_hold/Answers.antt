use Rattle.std.proofs.Common.{true}
use Rattle.std.specs.Prelude.{int_le}
use Rattle.intervals.proofs.Truths.{turned}
use Rattle.intervals.proofs.Truths.{differ_unequal}
use Rattle.intervals.proofs.tests.may_hold.Goals as goal

pub returns-in-Equal : goal.returns-in-Equal
returns-in-Equal c = rw c.in-Equal.is c.may_be_equal.ensures

pub returns-in-Unequal : goal.returns-in-Unequal
returns-in-Unequal c = rw c.in-Unequal.is (differ_unequal c.args.left c.args.right c.may_differ.result c.may_differ.ensures)

pub returns-in-AtMost : goal.returns-in-AtMost
returns-in-AtMost c = rw c.in-AtMost.is c.may_be_at_most.ensures

pub returns-in-AtLeast : goal.returns-in-AtLeast
returns-in-AtLeast c = rw c.in-AtLeast.is (turned (λ x y. int_le x y) c.args.left c.args.right true c.may_be_at_most-in-AtLeast.result c.may_be_at_most-in-AtLeast.ensures)
