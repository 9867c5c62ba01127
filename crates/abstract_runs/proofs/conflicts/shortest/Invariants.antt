use Rattle.std.proofs.Common.{take}
use Rattle.std.specs.List.{All}
use Rattle.abstract_runs.specs.Columns.{GivesBehind}
use Rattle.abstract_runs.proofs.conflicts.shortest.Given as goal

-- those gone over give nothing before this position
abbrev pub invariant-loop-k : goal.invariant-loop-k
invariant-loop-k l = All (GivesBehind l.least) (take l.k l.fn.rows)
