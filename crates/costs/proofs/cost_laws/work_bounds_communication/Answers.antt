use Rattle.costs.proofs.Communication.{accesses_are_counted, inside_and_outside_are_all}
use Rattle.costs.proofs.cost_laws.work_bounds_communication.Goals as goal

pub returns : goal.returns
returns c = record { accesses = accesses_are_counted; all = inside_and_outside_are_all }
