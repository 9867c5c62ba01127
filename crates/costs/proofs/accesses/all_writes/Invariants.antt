use Rattle.costs.proofs.PartSums.{InWrites}
use Rattle.costs.proofs.accesses.all_writes.Given as goal

abbrev pub invariant-loop-x : goal.invariant-loop-x
invariant-loop-x l = InWrites l.parts l.x-index l.writes
