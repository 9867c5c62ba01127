use Rattle.std.proofs.Common.{refl}
use Rattle.std.specs.Int.{int_wrap}
use Rattle.machine_examples.proofs.worked_law.sums_replace_the_old_value.Goals as goal

pub returns : goal.returns
unfolding int_wrap
returns c = record { added = record { enough = 20; most = 20; ends = refl; told = refl } }
