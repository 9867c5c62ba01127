use Rattle.std.proofs.Common.{refl}
use Rattle.intervals.proofs.Truths.{met, unmet}
use Rattle.intervals.proofs.tests.may_be_equal.Goals as goal

pub returns-in-Some : goal.returns-in-Some
returns-in-Some c = (λ t. met c.args.left c.args.right c.in-Some.field-0 (rw c.in-Some.is at c.meet.ensures), λ g. refl)

pub returns-in-None : goal.returns-in-None
returns-in-None c = (λ t. absurd (cc), λ g. absurd (unmet c.args.left c.args.right (rw c.in-None.is at c.meet.ensures) g))
