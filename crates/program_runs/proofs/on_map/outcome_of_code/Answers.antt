use Rattle.write_rules.specs.Verdict.{verdict_of}
use Rattle.program_runs.proofs.Packing.{runs_of_code, runs_packed, refusals_of_code}
use Rattle.program_runs.proofs.RunLemmas.{refused_too}
use Rattle.program_runs.proofs.on_map.outcome_of_code.Goals as goal

pub returns-in-Ok-clause-run : goal.returns-in-Ok-clause-run
returns-in-Ok-clause-run g c =
    runs_of_code c.args.code.now c.in-Ok.packed c.in-Ok.ensures.packed c.in-Ok.ensures.alike c.args.input.now c.args.options
    c.args.reserve verdict_of c.outcome_as_it_stands.result c.outcome_as_it_stands.ensures.run

pub returns-in-Ok-clause-packed : goal.returns-in-Ok-clause-packed
returns-in-Ok-clause-packed g c =
    runs_packed c.args.code.now c.in-Ok.packed c.in-Ok.ensures.packed c.args.input.now c.args.options c.args.reserve verdict_of
    c.outcome_as_it_stands.result c.outcome_as_it_stands.ensures.run

pub returns-in-Ok-clause-refused : goal.returns-in-Ok-clause-refused
returns-in-Ok-clause-refused g c =
    refusals_of_code c.args.code.now c.in-Ok.packed c.in-Ok.ensures.packed c.in-Ok.ensures.alike c.args.input.now c.args.options
    c.args.reserve c.outcome_as_it_stands.result c.outcome_as_it_stands.ensures.refused

pub returns-in-Err-clause-refused : goal.returns-in-Err-clause-refused
returns-in-Err-clause-refused g c =
    refused_too c.args.code.now c.args.input.now c.args.options c.args.reserve c.refused_memory.result c.refused_memory.ensures
