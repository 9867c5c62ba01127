use Rattle.text_out.proofs.Writing.{writes_stopped}
use Rattle.text_out.proofs.Progress.{stops}
use Rattle.pictures.specs.Steps.Measures.{frame_is}
use Rattle.pictures.proofs.OfSteps.ColumnTexts.{column_written, columns_at}
use Rattle.pictures.proofs.steps.bands.write_columns.Goals as goal

-- the writer stopped within one column
pub returns-in_err-write_with_front : goal.returns-in_err-write_with_front
returns-in_err-write_with_front g c =
    let at = columns_at (frame_is c.args.frame.now) c.args.first c.args.number c.args.entries.now c.loop-entry.entry-index
    c.loop-entry.before c.entry-item.result c.loop-entry-test.true c.entry-item.is in
    record {
      written = writes_stopped _ _ _ c.from_residual.result _ c.from_residual.ensures.1
          (stops _ _ _ _ _ _ _ c.loop-entry.invariant.progress at c.in_err-write_with_front.ensures.written);
    }

pub loop-entry-preserved : goal.loop-entry-preserved
loop-entry-preserved g c =
    column_written _ _ _ _ (frame_is c.args.frame.now) c.args.first c.args.number c.args.entries.now c.loop-entry.entry-index
    c.loop-entry.before c.entry-item.result c.loop-entry.invariant c.loop-entry-test.true c.entry-item.is
    c.in_ok-write_with_front.ensures.written
