use Rattle.run_tests.proofs.caller.open_both.Goals as goal

pub returns-clause-runnable : goal.returns-clause-runnable
returns-clause-runnable g c = (c.in-Ok.ensures.fresh.going 0).runnable
