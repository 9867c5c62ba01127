use Rattle.std.proofs.Common.{◌≡◌, ℕ, ◌<◌, pos, get_or}
use Rattle.sweeps.specs.Echelons.{MaySolve, SolveFirst}
use Rattle.sweeps.specs.Equations.{Vector}
use Rattle.sweeps.specs.declared.row.Row.{Row}
use Rattle.sweeps.proofs.echelon.pivot_of.Given as goal

abbrev pub invariant-loop-row : goal.invariant-loop-row
invariant-loop-row l =
    (z : Vector) → SolveFirst l.pivots l.column z → ((i : ℕ) → i < 7 → l.column < i → z i ≡ pos 0) →
    (k : ℕ) (d : Row) → k < l.row-index → MaySolve z (get_or l.table k d)
