use Rattle.std.proofs.Common.{ap, length}
use Rattle.memory_texts.specs.Assignments.{in_line, left_in}
use Rattle.memory_texts.proofs.Numbers.{bad_values, numbers_are}
use Rattle.memory_texts.proofs.assignment.values_of.Goals as goal

pub returns-in-Ok : goal.returns-in-Ok
returns-in-Ok c =
    ap (λ r. in_line c.args.end (left_in (length c.args.text.now) r)) (numbers_are _ _ c.in-Ok.ensures.found.numbers)

pub returns-in-BadToken : goal.returns-in-BadToken
returns-in-BadToken c =
    let wrong = rw c.in-BadToken.is at c.in-Err.ensures.refused in
    bad_values c.args.end c.in-BadToken.at c.saturating_sub.result c.args.text.now c.misplaced.result wrong c.saturating_sub.ensures
    c.misplaced.ensures
