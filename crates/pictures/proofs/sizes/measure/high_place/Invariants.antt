use Rattle.std.proofs.Common.{◌≡◌, drop, max}
use Rattle.pictures.specs.Sizes.Places.{high_place}
use Rattle.pictures.proofs.sizes.measure.high_place.Given as goal

abbrev pub invariant-loop-row : goal.invariant-loop-row
invariant-loop-row l = max l.high (high_place (drop l.row-index l.rows)) ≡ high_place l.rows
