use Rattle.write_rules.specs.Verdict.{verdict_of}
use Rattle.program_runs.proofs.RunLemmas.{all_meanings, all_ran, all_refused, all_runs, all_runs_by_workers, all_stopped}
use Rattle.program_runs.proofs.from_text.run_program.Goals as goal

pub returns-clause-meaning : goal.returns-clause-meaning
returns-clause-meaning g c =
    let made = c.in_ok-code in
    all_meanings c.args.program.now made.code made.ensures.meaning c.args.input.now c.args.options c.args.reserve
    c.have_64_bits.ensures (λ x. verdict_of x.0) (λ x. x.1) c.run_code.result c.run_code.ensures.run

pub returns-clause-run : goal.returns-clause-run
returns-clause-run g c =
    let made = c.in_ok-code in
    all_ran c.args.program.now made.code made.ensures.meaning c.args.input.now c.args.options c.args.reserve
    c.have_64_bits.ensures (λ x. verdict_of x.0) (λ x. x.1) c.run_code.result made.ensures.code c.run_code.ensures.run

pub returns-clause-outcome : goal.returns-clause-outcome
returns-clause-outcome g c =
    let made = c.in_ok-code in
    all_runs c.args.program.now c.args.input.now c.args.options c.args.reserve (λ x. verdict_of x.0) (λ x. x.1) c.run_code.result
    (all_meanings c.args.program.now made.code made.ensures.meaning c.args.input.now c.args.options c.args.reserve
    c.have_64_bits.ensures (λ x. verdict_of x.0) (λ x. x.1) c.run_code.result c.run_code.ensures.run)

pub returns-clause-exchanges : goal.returns-clause-exchanges
returns-clause-exchanges g c =
    let made = c.in_ok-code in
    all_runs_by_workers c.args.program.now c.args.input.now c.args.options c.args.reserve (λ x. verdict_of x.0) (λ x. x.1)
    c.run_code.result
    (all_ran c.args.program.now made.code made.ensures.meaning c.args.input.now c.args.options c.args.reserve
    c.have_64_bits.ensures (λ x. verdict_of x.0) (λ x. x.1) c.run_code.result made.ensures.code c.run_code.ensures.run)

pub returns-clause-stopped : goal.returns-clause-stopped
returns-clause-stopped g c =
    let made = c.in_ok-code in
    all_stopped c.args.program.now made.code made.ensures.meaning c.args.input.now c.args.options c.args.reserve made.ensures.code
    c.run_code.result c.run_code.ensures.refused

pub returns-clause-refused : goal.returns-clause-refused
returns-clause-refused g c =
    let made = c.in_ok-code in
    all_refused c.args.program.now c.args.input.now c.args.options c.args.reserve c.run_code.result
    (all_stopped c.args.program.now made.code made.ensures.meaning c.args.input.now c.args.options c.args.reserve made.ensures.code
    c.run_code.result c.run_code.ensures.refused)
