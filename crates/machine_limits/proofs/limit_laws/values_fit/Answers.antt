use Rattle.machine_limits.proofs.FlatValues.{flat_values_fit, written_values_fit}
use Rattle.machine_limits.proofs.Runs.{values_fit_in_runs}
use Rattle.machine_limits.proofs.Outcomes.{outcomes_fit_in_runs}
use Rattle.machine_limits.proofs.limit_laws.values_fit.Goals as goal

pub returns : goal.returns
returns c = record { moments = values_fit_in_runs; outcomes = outcomes_fit_in_runs; flat = flat_values_fit; written = written_values_fit }
