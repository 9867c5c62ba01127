use Rattle.sweeps.proofs.Dependence.{dependent}
use Rattle.sweeps.proofs.echelon.echelon.Goals as goal

pub returns-in-None : goal.returns-in-None
returns-in-None c =
    dependent c.args.table.now c.args.choice.bits c.loop-column.column c.loop-column.pivots c.loop-column-test.true
    c.loop-column.invariant.1
    c.in-None.ensures.0 c.loop-column.invariant.3 c.in-None.ensures.1
