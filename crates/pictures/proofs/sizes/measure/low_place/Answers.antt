use Rattle.std.proofs.Common.{arith}
use Rattle.pictures.proofs.OfSizes.Lows.{low_is_small}
use Rattle.pictures.proofs.sizes.measure.low_place.Goals as goal

pub loop-row-init : goal.loop-row-init
loop-row-init c = let small = low_is_small c.args.rows.now in record { so_far = omega (arith, small); small = omega arith }
