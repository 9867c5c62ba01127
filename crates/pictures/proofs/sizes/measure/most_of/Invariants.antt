use Rattle.std.proofs.Common.{◌≡◌, drop, max}
use Rattle.pictures.specs.Sizes.Places.{most_of}
use Rattle.pictures.proofs.sizes.measure.most_of.Given as goal

abbrev pub invariant-loop-row : goal.invariant-loop-row
invariant-loop-row l = max l.most (most_of l.measure (drop l.row-index l.rows)) ≡ most_of l.measure l.rows
