use Rattle.costs.proofs.PartSums.{InReads}
use Rattle.costs.proofs.accesses.all_reads.Given as goal

abbrev pub invariant-loop-x : goal.invariant-loop-x
invariant-loop-x l = InReads l.parts l.x-index l.reads
