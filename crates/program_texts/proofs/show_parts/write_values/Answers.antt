use Rattle.text_out.proofs.Writing.{writes_stopped}
use Rattle.text_out.proofs.Progress.{goes_on, stops}
use Rattle.program_texts.proofs.ShownLemmas.{values_at}
use Rattle.program_texts.proofs.show_parts.write_values.Goals as goal

-- the writer stopped within one line
pub returns-in_err-write_parts : goal.returns-in_err-write_parts
returns-in_err-write_parts g c =
    let at = values_at c.args.values.now c.loop-value.value-index _ _ c.loop-value-test.true c.decimal.ensures in
    record {
      written = writes_stopped _ _ _ c.from_residual.result _ c.from_residual.ensures.1
          (stops _ _ _ _ _ _ _ c.loop-value.invariant at c.in_err-write_parts.ensures.written);
    }

pub loop-value-preserved : goal.loop-value-preserved
loop-value-preserved g c =
    let at = values_at c.args.values.now c.loop-value.value-index _ _ c.loop-value-test.true c.decimal.ensures in
    goes_on _ _ _ _ _ _ _ c.loop-value.invariant at c.in_ok-write_parts.ensures.written
