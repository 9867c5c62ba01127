use Rattle.abstract_runs.proofs.CellSums.{sums_found}
use Rattle.abstract_runs.proofs.writing.added.Goals as goal

pub returns : goal.returns
returns c = sums_found c.args.sums c.args.value c.operate-found.result c.operate-found.ensures.told c.if-found.false
