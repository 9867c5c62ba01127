use Rattle.std.proofs.Common.{not}
use Rattle.pram_values.specs.Truth.{is_nonzero}
use Rattle.intervals.proofs.Truths.{not_holds, not_fails}
use Rattle.intervals.proofs.Told.{tests_told, tests_given}
use Rattle.intervals.proofs.tests.negation.Goals as goal

pub returns-clause-told : goal.returns-clause-told
returns-clause-told c =
    tests_told (λ x y. not (is_nonzero x)) c.args.operand c.args.operand c.may_be_false.result c.may_be_true.result c.tested.result
    (not_holds c.args.operand c.may_be_false.result c.may_be_false.ensures)
    (not_fails c.args.operand c.may_be_true.result c.may_be_true.ensures)
    c.tested.ensures.value c.tested.ensures.overflow c.tested.ensures.zero

pub returns-clause-ends : goal.returns-clause-ends
returns-clause-ends c =
    tests_given (λ x y. not (is_nonzero x)) c.args.operand c.args.operand c.may_be_false.result c.may_be_true.result c.tested.result
    (not_holds c.args.operand c.may_be_false.result c.may_be_false.ensures)
    (not_fails c.args.operand c.may_be_true.result c.may_be_true.ensures)
    c.tested.ensures.value
