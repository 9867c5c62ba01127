use Rattle.std.proofs.Common.{◌≡◌, ◌+ℤ◌, drop}
use Rattle.abstract_runs.specs.Columns.{low_sum, high_sum}
use Rattle.abstract_runs.proofs.conflicts.have_sums.Given as goal

-- what was added up, and what is left
abbrev pub invariant-loop-k : goal.invariant-loop-k
invariant-loop-k l =
    (low_sum l.fn.rows ≡ l.low +ℤ low_sum (drop l.k l.fn.rows)) × (high_sum l.fn.rows ≡ l.high +ℤ high_sum (drop l.k l.fn.rows))
