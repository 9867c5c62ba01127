use Rattle.std.proofs.Common.{◌≡◌, ◌≤◌, drop, min}
use Rattle.pictures.specs.Sizes.Places.{low_place}
use Rattle.pictures.proofs.sizes.measure.low_place.Given as goal

abbrev pub invariant-loop-row : goal.invariant-loop-row
invariant-loop-row l = record { so_far : min l.low (low_place (drop l.row-index l.rows)) ≡ low_place l.rows; small : l.low ≤ 65536 }
