use Rattle.std.proofs.lemmas.List.{get_or_default}
use Rattle.text_out.proofs.Writing.{writes_stopped}
use Rattle.text_out.proofs.Progress.{stops}
use Rattle.step_text.proofs.OwnTexts.{value_written, values_at}
use Rattle.step_text.proofs.own_locals.write_own_values.Goals as goal

-- the writer stopped within one local
pub returns-in_err-write_own_local : goal.returns-in_err-write_own_local
returns-in_err-write_own_local g c =
    let at = values_at c.args.tree.now c.args.at c.args.values.now c.loop-value.value-index c.loop-value.number _ c.loop-value-test.true
    (get_or_default c.args.values.now c.loop-value.value-index _ _ c.loop-value-test.true) in
    record {
      written = writes_stopped _ _ _ c.from_residual.result _ c.from_residual.ensures.1
          (stops _ _ _ _ _ _ _ c.loop-value.invariant.progress at c.in_err-write_own_local.ensures.written);
    }

pub loop-value-preserved : goal.loop-value-preserved
loop-value-preserved g c =
    value_written _ _ _ _ c.args.tree.now c.args.at c.args.values.now c.loop-value.value-index c.loop-value.number _ c.loop-value.invariant
    c.loop-value-test.true (get_or_default c.args.values.now c.loop-value.value-index _ _ c.loop-value-test.true)
    c.in_ok-write_own_local.ensures.written
