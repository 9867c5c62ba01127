use Rattle.std.proofs.Common.{◌≡◌, arith}
use Rattle.std.proofs.lemmas.List.{get_or_default}
use Rattle.text_out.proofs.Writing.{writes_stopped}
use Rattle.text_out.proofs.Progress.{stops}
use Rattle.pictures.proofs.OfSteps.ColumnTexts.{label_written, labels_at}
use Rattle.pictures.proofs.steps.bands.write_labels.Goals as goal

-- the writer stopped within one name
pub returns-in_err-write_label : goal.returns-in_err-write_label
returns-in_err-write_label g c =
    let at = labels_at c.args.top c.args.rows.now c.loop-index.index-index c.loop-index.before c.label_line.result _ c.label_line.ensures
    c.loop-index-test.true (get_or_default c.args.rows.now c.loop-index.index-index _ _ c.loop-index-test.true) in
    record {
      written = writes_stopped _ _ _ c.from_residual.result _ c.from_residual.ensures.1
          (stops _ _ _ _ _ _ _ c.loop-index.invariant.progress at c.in_err-write_label.ensures.written);
    }

pub loop-index-preserved : goal.loop-index-preserved
loop-index-preserved g c =
    label_written _ _ _ _ c.args.top c.args.rows.now c.loop-index.index-index c.loop-index.before c.label_line.result _
    c.loop-index.invariant c.label_line.ensures c.loop-index-test.true (get_or_default c.args.rows.now c.loop-index.index-index _ _
    c.loop-index-test.true)
    c.in_ok-write_label.ensures.written

pub label_line-requires-clause-few : goal.label_line-requires-clause-few
label_line-requires-clause-few g c =
    let counted : c.loop-index.before ≡ c.loop-index.index-index = c.loop-index.invariant.counted in
    let few = c.requires.few in
    let test = c.loop-index-test.true in
    omega (arith, counted, few, test)
