use Rattle.combining.proofs.ModuleSends.{merged_cells, merged_conflict, shared_conflict}
use Rattle.combining.proofs.combining_laws.modules_are_the_machines.Goals as goal

pub returns : goal.returns
returns c = record { cells = merged_cells; conflict = merged_conflict; shared = shared_conflict }
