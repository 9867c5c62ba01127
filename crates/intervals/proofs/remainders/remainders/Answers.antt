use Rattle.intervals.specs.Remainders.{HasOneQuotient}
use Rattle.intervals.proofs.Rests.{one_sound, one_ends, one_not_zero, range_found}
use Rattle.intervals.proofs.remainders.remainders.Goals as goal

pub returns-then-has_one_quotient-clause-sound : goal.returns-then-has_one_quotient-clause-sound
returns-then-has_one_quotient-clause-sound c =
    one_sound c.args.left c.args.right c.by_one.result (c.has_one_quotient.ensures.0 c.if-has_one_quotient.true) c.by_one.ensures.least c.by_one.ensures.greatest

pub returns-then-has_one_quotient-clause-range : goal.returns-then-has_one_quotient-clause-range
returns-then-has_one_quotient-clause-range c =
    let q : HasOneQuotient c.args.left c.args.right = c.has_one_quotient.ensures.0 c.if-has_one_quotient.true in
    record { range = λ n. absurd (n q); none = (λ e. absurd (cc), λ z. absurd (one_not_zero c.args.left c.args.right q z)) }

pub returns-then-has_one_quotient-clause-ends : goal.returns-then-has_one_quotient-clause-ends
returns-then-has_one_quotient-clause-ends c h =
    one_ends c.args.left c.args.right c.by_one.result h c.by_one.ensures.least c.by_one.ensures.greatest

pub returns-clause-range : goal.returns-clause-range
returns-clause-range c =
    range_found c.args.left c.args.right c.bounds.result c.is_zero_alone.result c.bounds.ensures.range c.is_zero_alone.ensures c.if-is_zero_alone.false
