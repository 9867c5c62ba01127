use Rattle.std.proofs.Common.{◌≡◌, take}
use Rattle.abstract_runs.specs.Columns.{column}
use Rattle.abstract_runs.proofs.conflicts.column.Given as goal

-- what was gone over
abbrev pub invariant-loop-j : goal.invariant-loop-j
invariant-loop-j l = l.reaches.items ≡ column l.fn.k (take l.j l.fn.rows)
