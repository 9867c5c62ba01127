use Rattle.pram_meaning.specs.Accesses.{made_by}
use Rattle.pram_meaning.specs.Judging.{part_is}
use Rattle.pram_meaning.proofs.Folds.{InBuild}
use Rattle.pram_meaning.proofs.access.collect_writes.Given as goal

abbrev pub invariant-loop-x : goal.invariant-loop-x
invariant-loop-x l = InBuild (λ x. made_by x.processor x.attempt) part_is l.parts l.x-index l.writes.items
