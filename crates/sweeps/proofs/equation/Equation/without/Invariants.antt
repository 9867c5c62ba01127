use Rattle.std.proofs.Common.{◌≡◌, ℕ, ◌+◌, ◌<◌, length, get_or}
use Rattle.sweeps.specs.Equations.{bits, crossed, entry, none}
use Rattle.sweeps.specs.Wides.{IsWithin, integer}
use Rattle.sweeps.proofs.equation.Equation.without.Given as goal

abbrev pub invariant-loop-i : goal.invariant-loop-i
invariant-loop-i l =
    (length l.entries ≡ 7)
    × ((k : ℕ) → k < l.i → integer (get_or l.entries k none) ≡ crossed l.column (entry l.self) (entry l.pivot) k)
    × ((k : ℕ) → k < l.i → IsWithin (bits (l.column + 1) k) (get_or l.entries k none))
