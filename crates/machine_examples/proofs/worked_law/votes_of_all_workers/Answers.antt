use Rattle.std.proofs.Common.{refl}
use Rattle.machine_examples.proofs.worked_law.votes_of_all_workers.Goals as goal

pub returns : goal.returns
returns c = record {
  voted = record { enough = 20; exchanges = 30; ends = refl };
  voted_by_three = record { enough = 20; exchanges = 30; ends = refl };
  bounded = record { enough = 20; exchanges = 30; ends = refl };
}
