use Rattle.std.proofs.Common.{◌≡◌, ℕ, ◌<◌, length, All}
use Rattle.sweeps.specs.Echelons.{IsEchelon, IsOfChoice, SolveFirst, Solves, pivot}
use Rattle.sweeps.specs.Equations.{Vector, dot, entry}
use Rattle.sweeps.specs.Choices.{chosen}
use Rattle.sweeps.proofs.echelon.echelon.Given as goal

abbrev pub invariant-loop-column : goal.invariant-loop-column
invariant-loop-column l =
    (length l.pivots ≡ 6) × IsEchelon l.pivots l.column
    × ((z : Vector) → All (Solves z) l.table → IsOfChoice l.choice.bits z → SolveFirst l.pivots l.column z)
    × ((j : ℕ) → j < l.column → chosen l.choice.bits j ≡ 0 → (z : Vector) → dot 7 (entry (pivot l.pivots j)) z ≡ z j)
