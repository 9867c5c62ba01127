use Rattle.std.proofs.Common.{List}
use Rattle.text_out.proofs.Writing.{writes_stopped}
use Rattle.text_out.proofs.Progress.{goes_on, stops}
use Rattle.text_out.proofs.Items.{at_item}
use Rattle.command_facts.specs.declared.found.GradeRow.{GradeRow}
use Rattle.command_text.specs.Grades.{rows_text}
use Rattle.command_text.proofs.grading.write_rows.Goals as goal

pub returns-in_err-write_row : goal.returns-in_err-write_row
returns-in_err-write_row g c =
    let at = at_item (λ (rows : List GradeRow). rows_text c.args.first_name.now rows) c.args.rows.now c.loop-row.row-index
    c.row-item.result c.loop-row-test.true c.row-item.is in
    record {
      written = writes_stopped _ _ _ c.from_residual.result _ c.from_residual.ensures.1
          (stops _ _ _ _ _ _ _ c.loop-row.invariant at c.in_err-write_row.ensures.written);
    }

pub loop-row-preserved : goal.loop-row-preserved
loop-row-preserved g c =
    let at = at_item (λ (rows : List GradeRow). rows_text c.args.first_name.now rows) c.args.rows.now c.loop-row.row-index
    c.row-item.result c.loop-row-test.true c.row-item.is in
    goes_on _ _ _ _ _ _ _ c.loop-row.invariant at c.in_ok-write_row.ensures.written
