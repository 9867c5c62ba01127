use Rattle.costs.proofs.TrailReads.{InTrail}
use Rattle.costs.proofs.accesses.reads_on.Given as goal

abbrev pub invariant-loop-cell : goal.invariant-loop-cell
invariant-loop-cell l = InTrail l.trail l.cell-index l.reads
