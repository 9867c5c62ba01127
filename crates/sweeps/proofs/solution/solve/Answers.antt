use Rattle.sweeps.proofs.Candidates.{fitting, not_determined}
use Rattle.sweeps.proofs.solution.solve.Goals as goal

pub returns-in-Some : goal.returns-in-Some
returns-in-Some c =
    fitting c.args.table.now c.args.choice.bits c.in-Some.pivots c.in-Some.ensures.1 c.solution.result c.solution.ensures

pub returns-in-None : goal.returns-in-None
returns-in-None c = not_determined c.args.table.now c.args.choice.bits c.in-None.ensures
