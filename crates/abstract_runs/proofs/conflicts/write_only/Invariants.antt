use Rattle.std.proofs.Common.{take}
use Rattle.std.specs.List.{All}
use Rattle.abstract_runs.specs.Columns.{WritesOnly}
use Rattle.abstract_runs.proofs.conflicts.write_only.Given as goal

-- those gone over write no other value
abbrev pub invariant-loop-k : goal.invariant-loop-k
invariant-loop-k l = All (WritesOnly l.fn.x) (take l.k l.fn.rows)
