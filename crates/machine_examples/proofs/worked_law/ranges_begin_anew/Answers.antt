use Rattle.std.proofs.Common.{refl}
use Rattle.machine_examples.proofs.worked_law.ranges_begin_anew.Goals as goal

pub returns : goal.returns
returns c = record {
  fresh = record { enough = 20; exchanges = 20; ends = refl };
  at_once = record { enough = 20; exchanges = 9; ends = refl };
  over = record { enough = 20; exchanges = 9; ends = refl };
  empty = record { enough = 20; most = 9; ends = refl; told = refl };
}
