use Rattle.program_runs.proofs.Bounded.{costs_tell_communication, work_bounds_communication}
use Rattle.program_runs.proofs.communication_law.work_bounds_communication.Goals as goal

pub returns : goal.returns
returns c = record { words = work_bounds_communication; told = costs_tell_communication }
