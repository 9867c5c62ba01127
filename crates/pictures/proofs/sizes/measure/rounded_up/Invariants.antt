use Rattle.std.proofs.Common.{◌≡◌, drop}
use Rattle.pictures.specs.Sizes.Places.{rounded_up, units}
use Rattle.pictures.proofs.sizes.measure.rounded_up.Given as goal

-- what is left tells what all units tell
abbrev pub invariant-loop-unit : goal.invariant-loop-unit
invariant-loop-unit l = rounded_up units l.number ≡ rounded_up (drop l.unit-index units) l.number
