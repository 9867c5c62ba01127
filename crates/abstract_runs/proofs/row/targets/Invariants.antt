use Rattle.std.proofs.Common.{◌≡◌, take}
use Rattle.std.specs.List.{All}
use Rattle.abstract_runs.specs.Columns.{targets, HasWords}
use Rattle.abstract_runs.proofs.row.targets.Given as goal

-- what was gone over
abbrev pub invariant-loop-k : goal.invariant-loop-k
invariant-loop-k l = (l.reaches.items ≡ targets (take l.k l.fn.rows)) × All HasWords (take l.k l.fn.rows)
