use Rattle.std.proofs.Common.{◌∙◌, ap, Global, List, Vec}
use Rattle.costs.specs.declared.line_cost.LineCost.{LineCost}
use Rattle.costs.proofs.RowCosts.{row_passed, row_told}
use Rattle.costs.proofs.row_costs.costs_by_line.Goals as goal
use Rattle.costs.proofs.row_costs.costs_by_line.Goals.{then-row-gt0+in_ok-push, else-row-gt0}

abbrev items : Vec LineCost Global → List LineCost
items v = v.items

pub loop-line-preserved : goal.loop-line-preserved
loop-line-preserved c =
    elim c.if-row-gt0.branch [
      | then-row-gt0+in_ok-push w ↦ row_told c.args.rows.now c.loop-line.line c.index-rows-line.result c.loop-line.costs.items
          c.if-row-gt0.costs.items w.row_cost.result c.loop-line-test.true c.index-rows-line.is c.loop-line.invariant w.if-row-gt0.true
          w.row_cost.ensures (ap items w.costs-is ∙ w.in_ok-push.ensures.items)
      | else-row-gt0 w ↦ row_passed c.args.rows.now c.loop-line.line c.index-rows-line.result c.loop-line.costs.items
          c.if-row-gt0.costs.items c.loop-line-test.true c.index-rows-line.is c.loop-line.invariant w.if-row-gt0.false (ap items w.costs-is)
    ]
