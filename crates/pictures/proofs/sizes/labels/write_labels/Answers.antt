use Rattle.std.proofs.Common.{ap, refl}
use Rattle.text_out.proofs.Writing.{writes_stopped}
use Rattle.text_out.proofs.Progress.{goes_on, stops}
use Rattle.svg_texts.specs.Shapes.{shape_text}
use Rattle.pictures.specs.Sizes.Labels.{last_of}
use Rattle.pictures.proofs.OfSizes.LabelTexts.{labels_at}
use Rattle.pictures.proofs.sizes.labels.write_labels.Goals as goal

pub returns-in_err-write_label : goal.returns-in_err-write_label
returns-in_err-write_label g c =
    let at = ap shape_text (labels_at c.args.kind c.args.frame c.loop-row.last (last_of c.loop-row.last c.label_of-label.result)
    c.args.rows.now
    c.loop-row.row-index c.row-item.result c.label_of-label.result c.loop-row-test.true c.row-item.is c.label_of-label.ensures refl) in
    record {
      written = writes_stopped _ _ _ c.from_residual.result _ c.from_residual.ensures.1
          (stops _ _ _ _ _ _ _ c.loop-row.invariant at c.in_err-write_label.ensures.written);
    }

pub loop-row-preserved : goal.loop-row-preserved
loop-row-preserved g c =
    let at = ap shape_text (labels_at c.args.kind c.args.frame c.loop-row.last c.last_of-last.result c.args.rows.now c.loop-row.row-index
    c.row-item.result c.label_of-label.result c.loop-row-test.true c.row-item.is c.label_of-label.ensures c.last_of-last.ensures) in
    goes_on _ _ _ _ _ _ _ c.loop-row.invariant at c.in_ok-write_label.ensures.written
