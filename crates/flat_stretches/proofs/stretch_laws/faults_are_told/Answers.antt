use Rattle.flat_stretches.proofs.Tells.{ends_tell, quiet_places_tell, quiet_stretches_tell, jumps_tell, forks_tell, calm_places_tell}
use Rattle.flat_stretches.proofs.Tells.{quiet_before_calm}
use Rattle.flat_stretches.proofs.stretch_laws.faults_are_told.Goals as goal

pub returns : goal.returns
returns c = record {
  ends = ends_tell;
  quiet = quiet_places_tell;
  stretches = quiet_stretches_tell;
  jumps = jumps_tell;
  forks = forks_tell;
  calm = calm_places_tell;
  before_calm = quiet_before_calm;
}
