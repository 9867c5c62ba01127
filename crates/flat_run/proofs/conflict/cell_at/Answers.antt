use Rattle.std.proofs.Common.{arith, tests}
use Rattle.flat_run.proofs.PartLemmas.{cell_is, no_cell}
use Rattle.flat_run.proofs.conflict.cell_at.Goals as goal

pub returns-in-Some : goal.returns-in-Some
returns-in-Some c =
    let found = c.in-Some.ensures.lookup in
    cell_is c.args.asks.now c.args.k _ (grind (arith, tests, found.0)) found.1

pub returns-in-None : goal.returns-in-None
returns-in-None c =
    let found = c.in-None.ensures.lookup in
    no_cell c.args.asks.now c.args.k (grind (arith, tests, found.0))
