use Rattle.std.proofs.lemmas.List.{get_or_default}
use Rattle.text_out.proofs.Writing.{writes_stopped}
use Rattle.text_out.proofs.Progress.{goes_on, stops}
use Rattle.diagnoses.proofs.CauseLemmas.{others_at}
use Rattle.diagnoses.proofs.cause_text.write_others.Goals as goal

-- the writer stopped within one write
pub returns-in_err-write_one : goal.returns-in_err-write_one
returns-in_err-write_one g c =
    let at = others_at c.args.writes.now c.loop-write.write-index _ c.loop-write-test.true
    (get_or_default c.args.writes.now c.loop-write.write-index _ _ c.loop-write-test.true) in
    record {
      written = writes_stopped _ _ _ c.from_residual.result _ c.from_residual.ensures.1
          (stops _ _ _ _ _ _ _ c.loop-write.invariant at c.in_err-write_one.ensures.written);
    }

pub loop-write-preserved : goal.loop-write-preserved
loop-write-preserved g c =
    let at = others_at c.args.writes.now c.loop-write.write-index _ c.loop-write-test.true
    (get_or_default c.args.writes.now c.loop-write.write-index _ _ c.loop-write-test.true) in
    goes_on _ _ _ _ _ _ _ c.loop-write.invariant at c.in_ok-write_one.ensures.written
