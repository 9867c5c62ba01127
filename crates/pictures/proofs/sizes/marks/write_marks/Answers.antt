use Rattle.std.proofs.Common.{ap}
use Rattle.text_out.proofs.Items.{at_item}
use Rattle.text_out.proofs.Writing.{writes_stopped}
use Rattle.text_out.proofs.Progress.{goes_on, stops}
use Rattle.svg_texts.specs.Shapes.{shape_text}
use Rattle.pictures.specs.Sizes.Marks.{marks}
use Rattle.pictures.proofs.sizes.marks.write_marks.Goals as goal

pub returns-in_err-write_mark : goal.returns-in_err-write_mark
returns-in_err-write_mark g c =
    let at = ap shape_text (at_item (marks c.args.name.now c.args.frame) c.args.rows.now c.loop-row.row-index c.row-item.result
    c.loop-row-test.true
    c.row-item.is) in
    record {
      written = writes_stopped _ _ _ c.from_residual.result _ c.from_residual.ensures.1
          (stops _ _ _ _ _ _ _ c.loop-row.invariant at c.in_err-write_mark.ensures.written);
    }

pub loop-row-preserved : goal.loop-row-preserved
loop-row-preserved g c =
    let at = ap shape_text (at_item (marks c.args.name.now c.args.frame) c.args.rows.now c.loop-row.row-index c.row-item.result
    c.loop-row-test.true
    c.row-item.is) in
    goes_on _ _ _ _ _ _ _ c.loop-row.invariant at c.in_ok-write_mark.ensures.written
