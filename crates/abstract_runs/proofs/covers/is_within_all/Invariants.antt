use Rattle.intervals.specs.Intervals.{IsWithin}
use Rattle.abstract_runs.proofs.Each.{ToEach}
use Rattle.abstract_runs.proofs.covers.is_within_all.Given as goal

-- those gone over lie in the others
abbrev pub invariant-loop-k : goal.invariant-loop-k
invariant-loop-k l = ToEach IsWithin l.k l.fn.items l.fn.others
