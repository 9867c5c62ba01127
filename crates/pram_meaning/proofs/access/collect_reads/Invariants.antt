use Rattle.pram_meaning.specs.Accesses.{read_at}
use Rattle.pram_meaning.specs.Conflict.{trail_of}
use Rattle.pram_meaning.specs.Judging.{part_is}
use Rattle.pram_meaning.proofs.Folds.{InBuild}
use Rattle.pram_meaning.proofs.access.collect_reads.Given as goal

abbrev pub invariant-loop-x : goal.invariant-loop-x
invariant-loop-x l = InBuild (λ x. read_at l.at x.processor (trail_of x.attempt)) part_is l.parts l.x-index l.reads.items
