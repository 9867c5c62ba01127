use Rattle.pram_meaning.specs.Runs.{state_of}
use Rattle.endless_runs.proofs.Walk.{ran}
use Rattle.endless_runs.proofs.search.Search.run.Goals as goal

pub returns-in-Ok-clause-known : goal.returns-in-Ok-clause-known
returns-in-Ok-clause-known c =
    (ran c.args.self.now.interpreter.program.now c.args.self.now.interpreter.bound c.args.s.now (state_of c.args.run.now)
    (state_of c.run_statement.new.run) c.requires.within c.in-Ok.ensures.value).0

pub returns-in-Ok-clause-within : goal.returns-in-Ok-clause-within
returns-in-Ok-clause-within c =
    (ran c.args.self.now.interpreter.program.now c.args.self.now.interpreter.bound c.args.s.now (state_of c.args.run.now)
    (state_of c.run_statement.new.run) c.requires.within c.in-Ok.ensures.value).1
