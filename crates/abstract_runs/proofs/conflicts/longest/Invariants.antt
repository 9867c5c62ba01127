use Rattle.std.proofs.Common.{◌≤◌, length, take}
use Rattle.std.specs.List.{All}
use Rattle.abstract_runs.proofs.conflicts.longest.Given as goal

-- no trail gone over passes this number
abbrev pub invariant-loop-k : goal.invariant-loop-k
invariant-loop-k l = All (λ row. length row.trail.items ≤ l.most) (take l.k l.fn.rows)
