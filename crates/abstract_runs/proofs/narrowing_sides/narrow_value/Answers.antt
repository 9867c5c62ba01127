use Rattle.std.proofs.Common.{◌≡◌, true, subst}
use Rattle.pram_meaning.specs.Store.{seen}
use Rattle.intervals.specs.Comparisons.{holds}
use Rattle.abstract_runs.proofs.OneCell.{slot_value}
use Rattle.abstract_runs.proofs.narrowing_sides.narrow_value.Goals as goal

pub returns-in-Some-clause-kept : goal.returns-in-Some-clause-kept
returns-in-Some-clause-kept c = λ m z y stands h i is.
    c.narrow_slot.ensures.kept m y stands i
    (subst (λ x. holds c.args.comparison x y ≡ true)
    (slot_value c.outlook_of-seen.result c.args.e.now c.in_ok-slot.field-0 c.in-Some.slot (seen c.args.program.now m) z c.in_ok-slot.ensures
    c.in-Some.is (c.outlook_of-seen.ensures m stands.known_as) h) is)
