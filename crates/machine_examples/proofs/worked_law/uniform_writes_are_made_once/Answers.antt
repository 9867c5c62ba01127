use Rattle.std.proofs.Common.{refl}
use Rattle.std.specs.Int.{int_wrap}
use Rattle.machine_examples.proofs.worked_law.uniform_writes_are_made_once.Goals as goal

pub returns : goal.returns
unfolding int_wrap
returns c = record { once = record { enough = 20; most = 20; ends = refl; told = refl } }
