use Rattle.std.proofs.Common.{◌≡◌, ◌*◌, ◌^◌, ◌≤◌}
use Rattle.sweeps.specs.Equations.{dot, entry}
use Rattle.sweeps.specs.Naturals.{number}
use Rattle.sweeps.specs.Wides.{integer}
use Rattle.sweeps.proofs.equation.Equation.sum.Given as goal

abbrev pub invariant-loop-i : goal.invariant-loop-i
invariant-loop-i l =
    (integer l.sum ≡ dot l.i (entry l.self) (entry l.other)) × (number l.sum.plus ≤ l.i * 2 ^ 971) × (number l.sum.minus ≤ l.i * 2 ^ 971)
