use Rattle.std.proofs.lemmas.List.{get_or_default}
use Rattle.text_out.proofs.Writing.{writes_stopped}
use Rattle.text_out.proofs.Progress.{goes_on, stops}
use Rattle.pictures.proofs.OfSteps.MarkTexts.{cells_at}
use Rattle.pictures.proofs.steps.marks.write_cells.Goals as goal

-- the writer stopped within one of them
pub returns-in_err-write_behind : goal.returns-in_err-write_behind
returns-in_err-write_behind g c =
    let at = cells_at c.args.layout.now c.args.cells.now c.loop-cell.cell-index _ c.loop-cell-test.true
    (get_or_default c.args.cells.now c.loop-cell.cell-index _ _ c.loop-cell-test.true) in
    record {
      written = writes_stopped _ _ _ c.from_residual.result _ c.from_residual.ensures.1
          (stops _ _ _ _ _ _ _ c.loop-cell.invariant at c.in_err-write_behind.ensures.written);
    }

pub loop-cell-preserved : goal.loop-cell-preserved
loop-cell-preserved g c =
    let at = cells_at c.args.layout.now c.args.cells.now c.loop-cell.cell-index _ c.loop-cell-test.true
    (get_or_default c.args.cells.now c.loop-cell.cell-index _ _ c.loop-cell-test.true) in
    goes_on _ _ _ _ _ _ _ c.loop-cell.invariant at c.in_ok-write_behind.ensures.written
