use Rattle.std.proofs.lemmas.List.{get_or_default}
use Rattle.text_out.proofs.Writing.{writes_stopped}
use Rattle.text_out.proofs.Progress.{goes_on, stops}
use Rattle.step_text.proofs.StepLines.{locals_from}
use Rattle.step_text.proofs.beside_cells.write_each_local.Goals as goal

-- the writer stopped within one local
pub returns-in_err-write_local : goal.returns-in_err-write_local
returns-in_err-write_local g c =
    let at = locals_from c.args.tree.now c.args.at c.loop-local.before c.args.locals.now c.loop-local.local-index _ c.loop-local-test.true
    (get_or_default c.args.locals.now c.loop-local.local-index _ _ c.loop-local-test.true) in
    record {
      written = writes_stopped _ _ _ c.from_residual.result _ c.from_residual.ensures.1
          (stops _ _ _ _ _ _ _ c.loop-local.invariant at c.in_err-write_local.ensures.written);
    }

pub loop-local-preserved : goal.loop-local-preserved
loop-local-preserved g c =
    let at = locals_from c.args.tree.now c.args.at c.loop-local.before c.args.locals.now c.loop-local.local-index _ c.loop-local-test.true
    (get_or_default c.args.locals.now c.loop-local.local-index _ _ c.loop-local-test.true) in
    goes_on _ _ _ _ _ _ _ c.loop-local.invariant at c.in_ok-write_local.ensures.written
