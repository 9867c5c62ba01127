use Rattle.std.proofs.Common.{take}
use Rattle.std.specs.List.{AllByRecursion}
use Rattle.abstract_runs.specs.Tests.{Splits}
use Rattle.abstract_runs.proofs.narrowing_tests.split_all.Given as goal

-- the operators so far are so
abbrev pub invariant-loop-k : goal.invariant-loop-k
invariant-loop-k l = AllByRecursion (λ link. Splits link.operator l.way) (take l.k l.links)
