use Rattle.std.proofs.Common.{refl}
use Rattle.machine_examples.proofs.worked_law.exchanges_that_decide.Goals as goal

pub returns : goal.returns
returns c = record {
  by_a_send = record { enough = 20; most = 9; ends = refl; told = refl };
  by_a_vote = record { enough = 20; most = 9; ends = refl; told = refl };
  not_yet = record { enough = 20; most = 9; ends = refl; told = refl };
}
