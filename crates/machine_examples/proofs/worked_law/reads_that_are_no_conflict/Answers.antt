use Rattle.std.proofs.Common.{refl}
use Rattle.machine_examples.proofs.worked_law.reads_that_are_no_conflict.Goals as goal

pub returns : goal.returns
returns c = record {
  apart = record { enough = 20; exchanges = 20; ends = refl };
  apart_alone = record { enough = 20; exchanges = 20; ends = refl };
  uniform_read = record { enough = 20; exchanges = 20; ends = refl };
}
