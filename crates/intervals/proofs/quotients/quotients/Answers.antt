use Rattle.intervals.proofs.Sides.{above_alone, below_alone, both_sides}
use Rattle.intervals.proofs.quotients.quotients.Goals as goal

pub returns-in-None-Some : goal.returns-in-None-Some
returns-in-None-Some c =
    above_alone c.args.left c.args.right c.in-None-Some.above _ _ (rw c.in-None-Some.is-0 at c.below_zero.ensures) (rw c.in-None-Some.is-1 at c.above_zero.ensures)
    c.one_sided.ensures

pub returns-in-Some-None : goal.returns-in-Some-None
returns-in-Some-None c =
    below_alone c.args.left c.args.right c.in-Some-None.below _ _ (rw c.in-Some-None.is-0 at c.below_zero.ensures) (rw c.in-Some-None.is-1 at c.above_zero.ensures)
    c.one_sided-in-Some-None.ensures

pub returns-in-Some-Some : goal.returns-in-Some-Some
returns-in-Some-Some c = rw (c.joined.ensures.least, c.joined.ensures.greatest)
    (both_sides c.args.left c.args.right c.in-Some-Some.below c.in-Some-Some.above _ _ _ _ (rw c.in-Some-Some.is-0 at c.below_zero.ensures)
    (rw c.in-Some-Some.is-1 at c.above_zero.ensures) c.one_sided-in-Some-Some.ensures c.one_sided-in-Some-Some-2.ensures)
