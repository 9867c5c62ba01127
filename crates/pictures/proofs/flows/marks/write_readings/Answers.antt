use Rattle.std.proofs.Common.{map}
use Rattle.std.proofs.lemmas.List.{get_or_default}
use Rattle.text_out.proofs.Writing.{writes_stopped}
use Rattle.text_out.proofs.Progress.{goes_on, stops}
use Rattle.pictures.proofs.OfFlows.Kept.{kept_at}
use Rattle.std.specs.Prelude.{None}
use Rattle.journal.specs.Entries.{act_is}
use Rattle.pictures.specs.Flows.Marks.{carries, reading}
use Rattle.pictures.specs.Flows.MarkShapes.{reading_shape}
use Rattle.pictures.proofs.flows.marks.write_readings.Goals as goal

pub returns-in_err-write_reading_if : goal.returns-in_err-write_reading_if
returns-in_err-write_reading_if g c =
    let at = kept_at (reading_shape c.args.rows.now) (reading c.args.column) (λ cell. carries (map act_is c.args.acts.now) cell None)
    c.args.rows.now c.loop-cell.cell-index _ c.loop-cell-test.true (get_or_default c.args.rows.now c.loop-cell.cell-index _ _
    c.loop-cell-test.true) in
    record {
      written = writes_stopped _ _ _ c.from_residual.result _ c.from_residual.ensures.1
          (stops _ _ _ _ _ _ _ c.loop-cell.invariant at c.in_err-write_reading_if.ensures.written);
    }

pub loop-cell-preserved : goal.loop-cell-preserved
loop-cell-preserved g c =
    let at = kept_at (reading_shape c.args.rows.now) (reading c.args.column) (λ cell. carries (map act_is c.args.acts.now) cell None)
    c.args.rows.now c.loop-cell.cell-index _ c.loop-cell-test.true (get_or_default c.args.rows.now c.loop-cell.cell-index _ _
    c.loop-cell-test.true) in
    goes_on _ _ _ _ _ _ _ c.loop-cell.invariant at c.in_ok-write_reading_if.ensures.written
