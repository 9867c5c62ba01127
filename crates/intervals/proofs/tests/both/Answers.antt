use Rattle.std.proofs.Common.{◌&&◌}
use Rattle.pram_values.specs.Truth.{is_nonzero}
use Rattle.intervals.proofs.Truths.{and_holds, and_fails}
use Rattle.intervals.proofs.Told.{tests_told, tests_given}
use Rattle.intervals.proofs.tests.both.Goals as goal

pub returns-clause-told : goal.returns-clause-told
returns-clause-told c =
    tests_told (λ x y. is_nonzero x && is_nonzero y) c.args.left c.args.right c.all_of-may_hold.result c.one_of.result c.tested.result
    (rw c.all_of-may_hold.ensures (and_holds c.args.left c.args.right _ _ c.may_be_true.ensures c.may_be_true-2.ensures))
    (rw c.one_of.ensures (and_fails c.args.left c.args.right _ _ c.may_be_false.ensures c.may_be_false-2.ensures))
    c.tested.ensures.value c.tested.ensures.overflow c.tested.ensures.zero

pub returns-clause-ends : goal.returns-clause-ends
returns-clause-ends c =
    tests_given (λ x y. is_nonzero x && is_nonzero y) c.args.left c.args.right c.all_of-may_hold.result c.one_of.result c.tested.result
    (rw c.all_of-may_hold.ensures (and_holds c.args.left c.args.right _ _ c.may_be_true.ensures c.may_be_true-2.ensures))
    (rw c.one_of.ensures (and_fails c.args.left c.args.right _ _ c.may_be_false.ensures c.may_be_false-2.ensures))
    c.tested.ensures.value
