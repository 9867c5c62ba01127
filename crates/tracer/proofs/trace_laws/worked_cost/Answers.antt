use Rattle.tracer.proofs.TraceLemmas.{worked_cost}
use Rattle.tracer.proofs.trace_laws.worked_cost.Goals as goal

pub returns : goal.returns
returns c = worked_cost
