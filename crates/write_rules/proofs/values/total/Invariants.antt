use Rattle.write_rules.proofs.Writes.{InSum}
use Rattle.write_rules.proofs.values.total.Given as goal

abbrev pub invariant-loop-write : goal.invariant-loop-write
invariant-loop-write l = InSum l.writes l.write-index l.sum
