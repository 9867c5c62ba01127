use Rattle.std.proofs.Common.{◌≡◌, take, map}
use Rattle.abstract_runs.proofs.Selected.{as_unsure}
use Rattle.abstract_runs.proofs.selecting.unsure.Given as goal

-- the members that were gone over
abbrev pub invariant-loop-k : goal.invariant-loop-k
invariant-loop-k l = l.some.items ≡ map as_unsure (take l.k l.fn.active)
