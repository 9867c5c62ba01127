use Rattle.std.proofs.Common.{refl}
use Rattle.machine_examples.proofs.worked_law.a_cell_in_conflict_keeps_its_value.Goals as goal

pub returns : goal.returns
returns c = record { enough = 20; exchanges = 9; ends = refl }
