use Rattle.std.specs.List.{AllAdjacentBelow}
use Rattle.sweeps.specs.Tables.{Doubles}
use Rattle.sweeps.proofs.doubling.grows_by.Given as goal

-- the rows so far double
abbrev pub invariant-loop-i : goal.invariant-loop-i
invariant-loop-i l = AllAdjacentBelow (Doubles l.step) l.table l.i
