use Rattle.std.proofs.Common.{ℕ, List, ℤ, pos, slice_index_or, ◌<◌, ◌≤◌}
use Rattle.intervals.specs.Intervals.{IsIn}
use Rattle.all_inputs.specs.Overall.{Cover}
use Rattle.abstract_runs.proofs.reach.read_cells.Given as goal

-- the cells that were joined
abbrev pub invariant-loop-c : goal.invariant-loop-c
invariant-loop-c l =
    (zs : List ℤ) (c : ℕ) → Cover l.fn.cells zs → l.fn.reach.least ≤ c → c < l.c → IsIn (slice_index_or zs c (pos 0)) l.found
