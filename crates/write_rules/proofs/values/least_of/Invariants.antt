use Rattle.write_rules.proofs.Writes.{InLeast}
use Rattle.write_rules.proofs.values.least_of.Given as goal

abbrev pub invariant-loop-write : goal.invariant-loop-write
invariant-loop-write l = InLeast l.fn.first l.writes l.write-index l.least
