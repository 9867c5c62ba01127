use Rattle.std.proofs.Common.{refl}
use Rattle.machine_examples.proofs.worked_law.inactive_processors_do_nothing.Goals as goal

pub returns : goal.returns
returns c = record {
  turned = record { enough = 40; exchanges = 20; ends = refl };
  no_fault = record { enough = 20; exchanges = 9; ends = refl };
}
