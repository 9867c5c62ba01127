use Rattle.write_rules.specs.Verdict.{verdict_of}
use Rattle.program_runs.proofs.RunLemmas.{some_exchanges}
use Rattle.program_runs.proofs.on_map.outcome_as_it_stands.Goals as goal

pub returns-clause-run : goal.returns-clause-run
returns-clause-run g c =
    some_exchanges c.args.code.now c.args.input.now c.args.options c.args.reserve (verdict_of c.in_ok-outcome.outcome) c.in_ok-outcome._none
    c.in_ok-outcome.ensures.run
