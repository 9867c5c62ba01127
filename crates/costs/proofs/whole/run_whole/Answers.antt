use Rattle.costs.proofs.Complete.{given_ok, run_counted}
use Rattle.costs.proofs.whole.run_whole.Goals as goal

pub returns-clause-totals : goal.returns-clause-totals
returns-clause-totals g c =
    run_counted c.args.program.now c.args.input.now c.args.bound c.args.schedule c.new.result c.observe_watched-meter.result.0.ledger
    c.new.ensures (given_ok c.observe_watched-meter.result.1 _ _ c.in_ok-outcome.was c.observe_watched-meter.ensures.heard).ledger
