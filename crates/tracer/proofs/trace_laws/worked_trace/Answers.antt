use Rattle.tracer.proofs.TraceLemmas.{worked}
use Rattle.tracer.proofs.trace_laws.worked_trace.Goals as goal

pub returns : goal.returns
returns c = worked
