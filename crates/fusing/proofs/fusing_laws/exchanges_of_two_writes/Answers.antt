use Rattle.std.proofs.Common.{refl}
use Rattle.fusing.proofs.fusing_laws.exchanges_of_two_writes.Goals as goal

pub returns : goal.returns
returns c = record { all = refl; fused = refl }
