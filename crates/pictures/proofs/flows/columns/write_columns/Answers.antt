use Rattle.text_out.proofs.Writing.{writes_stopped}
use Rattle.text_out.proofs.Progress.{stops}
use Rattle.pictures.proofs.OfFlows.ColumnLists.{column_written, columns_at}
use Rattle.pictures.proofs.flows.columns.write_columns.Goals as goal

pub returns-in_err-write_column : goal.returns-in_err-write_column
returns-in_err-write_column g c =
    let at = columns_at c.args.layout.now c.args.text.now c.args.rows.now c.args.columns.now c.loop-column.column-index
    c.loop-column.before c.column-item.result c.loop-column-test.true c.column-item.is in
    record {
      written = writes_stopped _ _ _ c.from_residual.result _ c.from_residual.ensures.1
          (stops _ _ _ _ _ _ _ c.loop-column.invariant.progress at c.in_err-write_column.ensures.written);
    }

pub loop-column-preserved : goal.loop-column-preserved
loop-column-preserved g c =
    column_written _ _ _ _ c.args.layout.now c.args.text.now c.args.rows.now c.args.columns.now c.loop-column.column-index
    c.loop-column.before c.column-item.result c.loop-column.invariant c.loop-column-test.true c.column-item.is
    c.in_ok-write_column.ensures.written
