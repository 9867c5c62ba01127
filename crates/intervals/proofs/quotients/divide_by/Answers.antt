use Rattle.std.proofs.Common.{inr}
use Rattle.pram_values.specs.Division.{floor_quotient}
use Rattle.pram_values.specs.Truth.{is_nonzero}
use Rattle.intervals.proofs.Hulls.{ends_given}
use Rattle.intervals.proofs.Sides.{quotient_told}
use Rattle.intervals.proofs.quotients.divide_by.Goals as goal

pub returns-in-Some-clause-told : goal.returns-in-Some-clause-told
returns-in-Some-clause-told c =
    quotient_told c.args.left c.args.right _ _ c.cut.result c.in-Some.ensures c.cut.ensures.cut (rw c.cut.ensures.zero c.has.ensures)

pub returns-in-Some-clause-ends : goal.returns-in-Some-clause-ends
returns-in-Some-clause-ends c =
    ends_given is_nonzero floor_quotient c.args.left c.args.right _ _ c.cut.result.value c.cut.result.may_overflow c.in-Some.ensures c.cut.ensures.cut

pub returns-in-Some-clause-cut : goal.returns-in-Some-clause-cut
returns-in-Some-clause-cut c =
    inr (record { lo = c.in-Some.span.least; hi = c.in-Some.span.greatest; hull = c.in-Some.ensures; cut = c.cut.ensures.cut })
