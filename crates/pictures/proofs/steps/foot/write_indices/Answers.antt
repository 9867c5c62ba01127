use Rattle.text_out.proofs.Writing.{writes_stopped}
use Rattle.text_out.proofs.Progress.{goes_on, stops}
use Rattle.std.proofs.lemmas.List.{get_or_default}
use Rattle.pictures.proofs.OfSteps.ColumnTexts.{indices_at}
use Rattle.pictures.proofs.steps.foot.write_indices.Goals as goal

pub returns-in_err-write_index : goal.returns-in_err-write_index
returns-in_err-write_index g c =
    let at = indices_at c.args.indices.now c.loop-index.index-index _ c.loop-index-test.true
    (get_or_default c.args.indices.now c.loop-index.index-index _ _ c.loop-index-test.true) in
    record {
      written = writes_stopped _ _ _ c.from_residual.result _ c.from_residual.ensures.1
          (stops _ _ _ _ _ _ _ c.loop-index.invariant at c.in_err-write_index.ensures.written);
    }

pub loop-index-preserved : goal.loop-index-preserved
loop-index-preserved g c =
    let at = indices_at c.args.indices.now c.loop-index.index-index _ c.loop-index-test.true
    (get_or_default c.args.indices.now c.loop-index.index-index _ _ c.loop-index-test.true) in
    goes_on _ _ _ _ _ _ _ c.loop-index.invariant at c.in_ok-write_index.ensures.written
