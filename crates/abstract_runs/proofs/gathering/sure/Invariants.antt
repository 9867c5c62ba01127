use Rattle.std.proofs.Common.{◌≡◌, take, map}
use Rattle.abstract_runs.proofs.Gathered.{as_sure}
use Rattle.abstract_runs.proofs.gathering.sure.Given as goal

-- the members that were gone over
abbrev pub invariant-loop-k : goal.invariant-loop-k
invariant-loop-k l = l.all.items ≡ map as_sure (take l.k l.fn.numbers)
