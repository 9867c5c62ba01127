use Rattle.combining.proofs.MachineAsks.{added_are_machines, added_fit, fitting_are_machines, stay_below}
use Rattle.combining.proofs.combining_laws.held_asks_are_the_machines.Goals as goal

pub returns : goal.returns
returns c = record { held = added_are_machines; fit = added_fit; fitting = fitting_are_machines; below = stay_below }
