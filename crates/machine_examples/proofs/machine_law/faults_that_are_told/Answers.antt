use Rattle.std.proofs.Common.{refl}
use Rattle.machine_examples.proofs.machine_law.faults_that_are_told.Goals as goal

pub returns : goal.returns
returns c = record {
  of_the_put = record { enough = 20; most = 9; ends = refl; told = refl };
  of_the_put_alone = record { enough = 20; exchanges = 9; ends = refl };
  of_least_position = record { enough = 20; exchanges = 9; ends = refl };
  of_any_worker = record { enough = 20; exchanges = 9; ends = refl };
  at_once = record { enough = 20; exchanges = 9; ends = refl };
  at_the_reply = record { enough = 20; exchanges = 9; ends = refl };
  output = record { enough = 20; exchanges = 9; ends = refl };
  too_wide = record { enough = 20; exchanges = 9; ends = refl };
}
