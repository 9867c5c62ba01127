use Rattle.std.proofs.Common.{◌∙◌}
use Rattle.mpi_export.proofs.Printed.{row_more_by}
use Rattle.mpi_export.proofs.printer.Printer.rows.Goals as goal

pub loop-at-preserved : goal.loop-at-preserved
loop-at-preserved g c = (
  c.row.ensures.same_out ∙ c.loop-at.invariant.0,
  row_more_by c.args.plan.now _ _ _ c.loop-at.at c.rows-rows.result.now _ c.rows-rows.ensures.rows c.loop-at.invariant.1
      c.loop-at-test.true c.row.ensures.prints,
)
