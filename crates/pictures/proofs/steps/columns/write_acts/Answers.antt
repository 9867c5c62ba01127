use Rattle.text_out.proofs.Writing.{writes_stopped}
use Rattle.text_out.proofs.Progress.{goes_on, stops}
use Rattle.pictures.specs.Steps.Measures.{column_is}
use Rattle.pictures.proofs.OfSteps.ColumnTexts.{acts_at}
use Rattle.pictures.proofs.steps.columns.write_acts.Goals as goal

pub returns-in_err-write_act : goal.returns-in_err-write_act
returns-in_err-write_act g c =
    let at = acts_at c.args.layout.now c.args.rows.now (column_is c.args.at) c.args.acts.now c.loop-act.act-index c.act-item.result
    c.loop-act-test.true c.act-item.is in
    record {
      written = writes_stopped _ _ _ c.from_residual.result _ c.from_residual.ensures.1
          (stops _ _ _ _ _ _ _ c.loop-act.invariant at c.in_err-write_act.ensures.written);
    }

pub loop-act-preserved : goal.loop-act-preserved
loop-act-preserved g c =
    let at = acts_at c.args.layout.now c.args.rows.now (column_is c.args.at) c.args.acts.now c.loop-act.act-index c.act-item.result
    c.loop-act-test.true c.act-item.is in
    goes_on _ _ _ _ _ _ _ c.loop-act.invariant at c.in_ok-write_act.ensures.written
