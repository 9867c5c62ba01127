use Rattle.std.proofs.Common.{refl}
use Rattle.machine_examples.proofs.machine_law.broadcast_on_two_workers.Goals as goal

pub returns : goal.returns
returns c = record {
  ended = record { enough = 20; exchanges = 9; ends = refl };
  bounded = record { enough = 20; exchanges = 9; ends = refl };
  exchanges = record { enough = 20; most = 9; ends = refl; told = refl };
  relations = refl;
  most_received = refl;
  most_sent = refl;
  exclusive_alone = record { enough = 20; exchanges = 9; ends = refl };
  refused = refl;
  past_reserve = refl;
  exclusive = record { enough = 20; exchanges = 9; ends = refl };
}
