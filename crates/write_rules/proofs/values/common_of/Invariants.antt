use Rattle.write_rules.proofs.Writes.{InCommon}
use Rattle.write_rules.proofs.values.common_of.Given as goal

abbrev pub invariant-loop-write : goal.invariant-loop-write
invariant-loop-write l = InCommon l.value l.writes l.write-index
