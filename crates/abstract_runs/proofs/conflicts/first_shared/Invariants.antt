use Rattle.std.proofs.Common.{Some, ◌+◌}
use Rattle.abstract_runs.specs.Columns.{AreApartBefore}
use Rattle.abstract_runs.proofs.conflicts.first_shared.Given as goal

-- the reads at the positions gone over are apart
abbrev pub invariant-loop-k : goal.invariant-loop-k
invariant-loop-k l = AreApartBefore (Some (l.k + 1)) l.fn.rows
