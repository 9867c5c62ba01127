-- The place of the least size.
use Rattle.std.proofs.Common.{◌≤◌, List, [], ◌∷◌, arith}
use Rattle.sweeps.specs.declared.size_row.SizeRow.{SizeRow}
use Rattle.pictures.specs.Sizes.Places.{low_place}

pub low_is_small : (rows : List SizeRow) → low_place rows ≤ 65536
low_is_small [] = omega arith
low_is_small (row ∷ rows) = let others = low_is_small rows in omega (arith, others)
