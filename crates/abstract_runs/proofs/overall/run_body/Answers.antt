use Rattle.std.proofs.Common.{◌≡◌, true, false}
use Rattle.abstract_runs.specs.Standing.{StandsFor}
use Rattle.abstract_runs.proofs.Coming.{at_items, block_goes, block_stops}
use Rattle.abstract_runs.proofs.overall.run_body.Goals as goal

pub returns-then-not-on : goal.returns-then-not-on
returns-then-not-on c = record {
  leads = at_items c.args.survey.now.program.now c.args.survey.now.bound c.args.known.now _ c.run_statement.new.told _
      c.args.survey.now.program.now.body c.body-body.ensures
      (block_stops c.args.survey.now.program.now c.args.survey.now.bound c.body-body.result.now c.loop-k.k _ c.args.known.now
      c.loop-k.known c.run_statement.new.known c.loop-k.told c.run_statement.new.told c.in_ok-on.on
      (λ u s. (false ≡ true) × StandsFor c.run_statement.new.known s) c.loop-k.invariant c.loop-k-test.true
      c.index-body-k.is c.in_ok-on.ensures.kept c.in_ok-on.ensures.leads c.if-not-on.true);
  halts = tt;
}

pub loop-k-preserved : goal.loop-k-preserved
loop-k-preserved c =
    block_goes c.args.survey.now.program.now c.args.survey.now.bound c.body-body.result.now c.loop-k.k _ c.args.known.now
    c.loop-k.known c.run_statement.new.known c.loop-k.told c.run_statement.new.told c.in_ok-on.on c.loop-k.invariant c.loop-k-test.true
    c.index-body-k.is c.in_ok-on.ensures.kept c.in_ok-on.ensures.leads
