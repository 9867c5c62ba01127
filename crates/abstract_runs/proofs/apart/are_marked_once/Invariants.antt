use Rattle.std.proofs.Common.{◌≡◌, true, false}
use Rattle.std.specs.Prelude.{slice_index_or}
use Rattle.abstract_runs.proofs.Unmet.{AreUnmet}
use Rattle.abstract_runs.proofs.apart.are_marked_once.Given as goal

-- those gone over are apart, and each of their cells has a mark
abbrev pub invariant-loop-k : goal.invariant-loop-k
invariant-loop-k l = AreUnmet l.fn.reaches l.k (λ c. slice_index_or l.marks.items c false ≡ true)
