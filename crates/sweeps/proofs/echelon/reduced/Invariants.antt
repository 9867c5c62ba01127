use Rattle.std.proofs.Common.{◌≡◌, ◌↔◌, ℕ, ◌<◌, pos}
use Rattle.sweeps.specs.Echelons.{SolveFirst}
use Rattle.sweeps.specs.Equations.{IsBounded, Vector, dot, entry}
use Rattle.sweeps.proofs.echelon.reduced.Given as goal

abbrev pub invariant-loop-i : goal.invariant-loop-i
invariant-loop-i l =
    IsBounded l.i l.left × ((k : ℕ) → k < l.i → entry l.left k ≡ pos 0)
    × ((z : Vector) → SolveFirst l.pivots l.column z → (dot 7 (entry l.equation) z ≡ pos 0) ↔ (dot 7 (entry l.left) z ≡ pos 0))
