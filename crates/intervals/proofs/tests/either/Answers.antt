use Rattle.std.proofs.Common.{◌||◌}
use Rattle.pram_values.specs.Truth.{is_nonzero}
use Rattle.intervals.proofs.Truths.{or_holds, or_fails}
use Rattle.intervals.proofs.Told.{tests_told, tests_given}
use Rattle.intervals.proofs.tests.either.Goals as goal

pub returns-clause-told : goal.returns-clause-told
returns-clause-told c =
    tests_told (λ x y. is_nonzero x || is_nonzero y) c.args.left c.args.right c.one_of-may_hold.result c.all_of.result c.tested.result
    (rw c.one_of-may_hold.ensures (or_holds c.args.left c.args.right _ _ c.may_be_true.ensures c.may_be_true-2.ensures))
    (rw c.all_of.ensures (or_fails c.args.left c.args.right _ _ c.may_be_false.ensures c.may_be_false-2.ensures))
    c.tested.ensures.value c.tested.ensures.overflow c.tested.ensures.zero

pub returns-clause-ends : goal.returns-clause-ends
returns-clause-ends c =
    tests_given (λ x y. is_nonzero x || is_nonzero y) c.args.left c.args.right c.one_of-may_hold.result c.all_of.result c.tested.result
    (rw c.one_of-may_hold.ensures (or_holds c.args.left c.args.right _ _ c.may_be_true.ensures c.may_be_true-2.ensures))
    (rw c.all_of.ensures (or_fails c.args.left c.args.right _ _ c.may_be_false.ensures c.may_be_false-2.ensures))
    c.tested.ensures.value
