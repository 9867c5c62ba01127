use Rattle.std.proofs.Common.{ℕ}
use Rattle.pictures.specs.Flows.Values.{value_at}
use Rattle.pictures.proofs.OfFlows.CellValues.{InChanges}
use Rattle.pictures.proofs.flows.values.put_all.Given as goal

abbrev pub invariant-loop-change : goal.invariant-loop-change
invariant-loop-change l = (k : ℕ) → InChanges k (value_at l.fn.values.items k) l.changes l.change-index (value_at l.values.items k)
