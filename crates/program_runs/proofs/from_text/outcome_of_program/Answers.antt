use Rattle.std.proofs.Common.{[]}
use Rattle.write_rules.specs.Verdict.{verdict_of}
use Rattle.program_runs.proofs.RunLemmas.{all_refused, all_runs, all_stopped, meanings_too, ran_too, runs_by_workers_too}
use Rattle.program_runs.proofs.from_text.outcome_of_program.Goals as goal

pub returns-clause-meaning : goal.returns-clause-meaning
returns-clause-meaning g c =
    let made = c.in_ok-code in
    meanings_too c.args.program.now c.args.input.now c.args.options c.args.reserve made.code made.ensures.meaning c.have_64_bits.ensures
    verdict_of c.outcome_of_tidied.result c.outcome_of_tidied.ensures.run

pub returns-clause-run : goal.returns-clause-run
returns-clause-run g c =
    let made = c.in_ok-code in
    ran_too c.args.program.now c.args.input.now c.args.options c.args.reserve made.code made.ensures.meaning c.have_64_bits.ensures
    made.ensures.code verdict_of c.outcome_of_tidied.result c.outcome_of_tidied.ensures.run

pub returns-clause-outcome : goal.returns-clause-outcome
returns-clause-outcome g c =
    all_runs c.args.program.now c.args.input.now c.args.options c.args.reserve verdict_of (λ x. []) c.outcome_of_tidied.result
    (returns-clause-meaning g c)

pub returns-clause-exchanges : goal.returns-clause-exchanges
returns-clause-exchanges g c =
    runs_by_workers_too c.args.program.now c.args.input.now c.args.options c.args.reserve verdict_of c.outcome_of_tidied.result
    (returns-clause-run g c)

pub returns-clause-stopped : goal.returns-clause-stopped
returns-clause-stopped g c =
    let made = c.in_ok-code in
    all_stopped c.args.program.now made.code made.ensures.meaning c.args.input.now c.args.options c.args.reserve made.ensures.code
    c.outcome_of_tidied.result c.outcome_of_tidied.ensures.refused

pub returns-clause-refused : goal.returns-clause-refused
returns-clause-refused g c =
    all_refused c.args.program.now c.args.input.now c.args.options c.args.reserve c.outcome_of_tidied.result (returns-clause-stopped g c)
