use Rattle.std.proofs.Common.{take}
use Rattle.std.specs.List.{AllByRecursion}
use Rattle.abstract_runs.specs.Staying.{IsStaying}
use Rattle.abstract_runs.proofs.staying.+staying.Given as goal

-- none of those gone over changes a processor
abbrev pub invariant-set_local-loop-s : goal.invariant-set_local-loop-s
invariant-set_local-loop-s l = AllByRecursion IsStaying (take l.s-index l.s-items)
