use Rattle.combining.proofs.Came.{values_are_machines, added_get_values}
use Rattle.combining.proofs.combining_laws.taken_values_are_the_machines.Goals as goal

pub returns : goal.returns
returns c = record { wanted = values_are_machines; added = added_get_values }
