use Rattle.std.proofs.Common.{ap, ◌<◌, length, arith}
use Rattle.text_out.proofs.Writing.{writes_stopped}
use Rattle.text_out.proofs.Progress.{goes_on, stops}
use Rattle.svg_texts.specs.Shapes.{shape_text}
use Rattle.tracer.specs.Picture.{drawn}
use Rattle.tracer.proofs.ColumnTexts.{column_fits, columns_at}
use Rattle.tracer.proofs.picture.write_columns.Goals as goal

pub write_column-requires-clause-most : goal.write_column-requires-clause-most
write_column-requires-clause-most g c =
    let test = c.exchanges-test.true in
    let long = c.drawn-i-end.ensures.drawn in
    let below : c.exchanges.i < length (drawn c.args.counts.now) = omega (arith, test, long) in
    let fits = column_fits c.args.counts.now c.exchanges.i below in
    let most = c.requires.most in
    omega (arith, fits, most)

-- the writer stopped within one column
pub returns-in_err-write_column : goal.returns-in_err-write_column
returns-in_err-write_column g c =
    let test = c.exchanges-test.true in
    let long = c.drawn-i-end.ensures.drawn in
    let below : c.exchanges.i < length (drawn c.args.counts.now) = omega (arith, test, long) in
    record {
      written = writes_stopped _ _ _ c.from_residual.result _ c.from_residual.ensures.1
          (stops _ _ _ _ _ _ _ c.exchanges.invariant.progress
          (ap shape_text (columns_at c.args.measure.workers c.args.measure.most c.args.lines.now c.args.counts.now c.exchanges.i
          c.line_of.result below
          c.line_of.ensures)) c.in_err-write_column.ensures.written);
    }

pub exchanges-preserved : goal.exchanges-preserved
exchanges-preserved g c =
    let test = c.exchanges-test.true in
    let long = c.drawn-i-end.ensures.drawn in
    let below : c.exchanges.i < length (drawn c.args.counts.now) = omega (arith, test, long) in
    record {
      progress = goes_on _ _ _ _ _ _ _ c.exchanges.invariant.progress
          (ap shape_text (columns_at c.args.measure.workers c.args.measure.most c.args.lines.now c.args.counts.now c.exchanges.i
          c.line_of.result below
          c.line_of.ensures)) c.in_ok-write_column.ensures.written;
    }
