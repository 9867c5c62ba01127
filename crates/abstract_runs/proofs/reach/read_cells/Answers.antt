use Rattle.abstract_runs.proofs.Reading.{joined_on}
use Rattle.abstract_runs.proofs.reach.read_cells.Goals as goal

pub loop-c-preserved : goal.loop-c-preserved
loop-c-preserved c =
    joined_on c.args.cells.now c.args.reach.least c.loop-c.c c.loop-c.found _ c.join-found.result c.loop-c.invariant c.interval_at.ensures
    c.join-found.ensures
