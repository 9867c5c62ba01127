-- Where the values of two runs differ.
use Rattle.std.specs.Prelude.{◌+◌, max, ℤ, List, length, map}
use Rattle.std.specs.List.{flat_map}
use Rattle.comparing.specs.declared.compared.CommonRange.{CommonRange}
use Rattle.comparing.specs.declared.difference.Difference.{Difference}
use Rattle.comparing.specs.declared.difference.Difference.TheVariants as differ
use Rattle.comparing.specs.declared.unequal.Beside.{Beside}
use Rattle.comparing.specs.Unequal.{unequals}

-- items are counted from 1
abbrev pub output_difference : Beside → Difference
output_difference b = differ.Output (b.place + 1) b.first b.second

abbrev pub output_differences : List ℤ → List ℤ → List Difference
output_differences o p = map output_difference (unequals o 0 p 0 (max (length o) (length p)))

-- a cell by its number in the first program
abbrev pub cell_difference : CommonRange → Beside → Difference
cell_difference r b = differ.Cell (r.first_start + b.place) b.first b.second

abbrev pub range_differences : List ℤ → List ℤ → CommonRange → List Difference
range_differences m q r = map (cell_difference r) (unequals m r.first_start q r.second_start r.length)

abbrev pub cell_differences : List CommonRange → List ℤ → List ℤ → List Difference
cell_differences rs m q = flat_map (range_differences m q) rs
