use Rattle.std.proofs.lemmas.List.{get_or_default}
use Rattle.text_out.proofs.Writing.{writes_stopped}
use Rattle.text_out.proofs.Progress.{goes_on, stops}
use Rattle.step_text.proofs.StepLines.{changes_at}
use Rattle.step_text.proofs.step_text.write_changes.Goals as goal

-- the writer stopped within one change
pub returns-in_err-write_change : goal.returns-in_err-write_change
returns-in_err-write_change g c =
    let at = changes_at c.args.layout.now c.args.changes.now c.loop-change.change-index _ c.loop-change-test.true
    (get_or_default c.args.changes.now c.loop-change.change-index _ _ c.loop-change-test.true) in
    record {
      written = writes_stopped _ _ _ c.from_residual.result _ c.from_residual.ensures.1
          (stops _ _ _ _ _ _ _ c.loop-change.invariant at c.in_err-write_change.ensures.written);
    }

pub loop-change-preserved : goal.loop-change-preserved
loop-change-preserved g c =
    let at = changes_at c.args.layout.now c.args.changes.now c.loop-change.change-index _ c.loop-change-test.true
    (get_or_default c.args.changes.now c.loop-change.change-index _ _ c.loop-change-test.true) in
    goes_on _ _ _ _ _ _ _ c.loop-change.invariant at c.in_ok-write_change.ensures.written
