use Rattle.flat_stretches.proofs.Closes.{halts_end, bounds_end}
use Rattle.flat_stretches.proofs.stretch_laws.runs_close.Goals as goal

pub returns : goal.returns
returns c = record { halt = halts_end; bound = bounds_end }
