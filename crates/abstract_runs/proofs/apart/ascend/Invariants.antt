use Rattle.std.proofs.Common.{◌<◌}
use Rattle.abstract_runs.proofs.Unmet.{AreUnmet}
use Rattle.abstract_runs.proofs.apart.ascend.Given as goal

-- those gone over are apart, and all of their cells come before the next
abbrev pub invariant-loop-k : goal.invariant-loop-k
invariant-loop-k l = AreUnmet l.fn.reaches l.k (λ c. c < l.next)
