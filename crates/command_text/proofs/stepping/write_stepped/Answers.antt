use Rattle.command_text.proofs.StepsWritten.{cut_in_time, run_in_time}
use Rattle.command_text.proofs.stepping.write_stepped.Goals as goal

pub returns-in_err-ending : goal.returns-in_err-ending
returns-in_err-ending g c = record {
  told = cut_in_time c.args.on c.args.steps _ _ _ c.in_err-ending.field-0.0 c.from_residual.ensures.1
      c.in_err-ending.ensures.told;
}

pub returns : goal.returns
returns g c = record {
  told = run_in_time c.args.on c.args.steps c.in_ok-ending.ending.bound c.in_ok-ending.ending.outcome c.cut_at.result _ _ _
      c.cut_at.ensures.cut c.with_outcome.ensures.run c.in_ok-ending.ensures.told;
}
