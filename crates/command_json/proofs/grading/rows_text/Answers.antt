use Rattle.std.proofs.Common.{List, map}
use Rattle.json_texts.proofs.Json.{goes_on}
use Rattle.text_out.proofs.Items.{at_item}
use Rattle.command_facts.specs.declared.found.GradeRow.{GradeRow}
use Rattle.command_json.specs.Grades.{row_facts}
use Rattle.command_json.proofs.grading.rows_text.Goals as goal

pub loop-row-preserved : goal.loop-row-preserved
loop-row-preserved c =
    let at = at_item (λ (rows : List GradeRow). map row_facts rows) c.args.rows.now c.loop-row.row-index c.row-item.result
    c.loop-row-test.true c.row-item.is in
    goes_on _ _ _ _ _ _ c.loop-row.invariant at c.in_ok-push_row.ensures.json
