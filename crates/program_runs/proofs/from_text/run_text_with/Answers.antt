use Rattle.program_runs.proofs.from_text.run_text_with.Goals as goal

pub returns-clause-exchanges : goal.returns-clause-exchanges
returns-clause-exchanges g c = c.in_ok-outcome.ensures.exchanges c.args.text.now c.in_ok-program.ensures.program
