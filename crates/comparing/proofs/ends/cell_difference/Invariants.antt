use Rattle.std.proofs.Common.{◌≡◌, drop}
use Rattle.std.specs.Prelude.{slice_get}
use Rattle.comparing.specs.Ends.{cell_differences}
use Rattle.comparing.proofs.ends.cell_difference.Given as goal

abbrev pub invariant-loop-range : goal.invariant-loop-range
invariant-loop-range l =
    slice_get (cell_differences (drop l.range-index l.fn.ranges) l.fn.first l.fn.second) 0
    ≡ slice_get (cell_differences l.fn.ranges l.fn.first l.fn.second) 0
