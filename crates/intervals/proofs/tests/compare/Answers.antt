use Rattle.intervals.specs.Comparisons.{holds}
use Rattle.intervals.proofs.Truths.{opposed}
use Rattle.intervals.proofs.Told.{tests_told, tests_given}
use Rattle.intervals.proofs.tests.compare.Goals as goal

pub returns-clause-told : goal.returns-clause-told
returns-clause-told c =
    tests_told (λ x y. holds c.args.comparison x y) c.args.left c.args.right c.may_hold.result c.may_hold-2.result c.tested.result
    c.may_hold.ensures
    (opposed (λ x y. holds c.args.comparison x y) (λ x y. holds c.opposite.result x y) c.args.left c.args.right c.may_hold-2.result c.opposite.ensures c.may_hold-2.ensures)
    c.tested.ensures.value c.tested.ensures.overflow c.tested.ensures.zero

pub returns-clause-ends : goal.returns-clause-ends
returns-clause-ends c =
    tests_given (λ x y. holds c.args.comparison x y) c.args.left c.args.right c.may_hold.result c.may_hold-2.result c.tested.result
    c.may_hold.ensures
    (opposed (λ x y. holds c.args.comparison x y) (λ x y. holds c.opposite.result x y) c.args.left c.args.right c.may_hold-2.result c.opposite.ensures c.may_hold-2.ensures)
    c.tested.ensures.value
