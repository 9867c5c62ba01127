use Rattle.std.proofs.Common.{pos, refl}
use Rattle.abstract_runs.proofs.narrowing_sides.narrow_alone.Goals as goal

pub returns-clause-kept : goal.returns-clause-kept
returns-clause-kept c = λ m stands come.
    c.in_ok-on.ensures.kept m come.value (pos 0) stands come.is ((c.point.ensures.member (pos 0)).1 refl)
    (c.held_alone.ensures come.value (pos 0) come.goes refl)
