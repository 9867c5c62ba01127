use Rattle.std.proofs.Common.{◌≡◌}
use Rattle.costs.specs.RowCosts.{costs_of_rows}
use Rattle.costs.proofs.row_costs.costs_by_line.Given as goal

abbrev pub invariant-loop-line : goal.invariant-loop-line
invariant-loop-line l = l.costs.items ≡ costs_of_rows l.rows l.line
