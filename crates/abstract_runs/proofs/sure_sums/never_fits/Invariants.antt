use Rattle.std.proofs.Common.{take}
use Rattle.abstract_runs.proofs.SureSums.{AreSums}
use Rattle.abstract_runs.proofs.sure_sums.never_fits.Given as goal

-- the least and the greatest sum of those gone over
abbrev pub invariant-loop-k : goal.invariant-loop-k
invariant-loop-k l = AreSums l.fn.c l.low l.high (take l.k l.fn.rows)
