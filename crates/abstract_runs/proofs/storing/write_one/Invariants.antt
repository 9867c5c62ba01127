use Rattle.std.proofs.Common.{◌≡◌, ℕ, ◌≤◌, ◌<◌, List, ℤ, length}
use Rattle.std.specs.Prelude.{slice_set}
use Rattle.intervals.specs.Intervals.{IsIn}
use Rattle.all_inputs.specs.Overall.{Cover}
use Rattle.abstract_runs.proofs.storing.write_one.Given as goal

-- the cells gone over may have been set
abbrev pub invariant-loop-c : goal.invariant-loop-c
invariant-loop-c l =
    ((zs : List ℤ) (c : ℕ) (v : ℤ) → Cover l.fn.cells.items zs → l.fn.reach.least ≤ c → c < l.c → IsIn v l.fn.value →
    Cover l.cells.items (slice_set zs c v)) × ((zs : List ℤ) → Cover l.fn.cells.items zs → Cover l.cells.items zs)
    × (length l.cells.items ≡ length l.fn.cells.items)
