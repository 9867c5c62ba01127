use Rattle.std.proofs.Common.{◌≡◌, ◌<◌, ◌+◌, ℕ, Some, None, get_or}
use Rattle.combining.specs.Asked.{ask_key}
use Rattle.combining.proofs.near.are_asked.Given as goal

abbrev pub invariant-cells : goal.invariant-cells
invariant-cells l = (k cell : ℕ) → k < l.k → get_or l.cells (l.from + k) None ≡ Some cell → get_or l.keys (l.likely + k) 0 ≡ ask_key
    l.ordinal cell
