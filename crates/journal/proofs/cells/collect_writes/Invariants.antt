use Rattle.pram_meaning.specs.Conflict.{writes_by}
use Rattle.pram_meaning.specs.Judging.{part_is}
use Rattle.pram_meaning.proofs.Folds.{InBuild}
use Rattle.journal.proofs.cells.collect_writes.Given as goal

abbrev pub invariant-loop-x : goal.invariant-loop-x
invariant-loop-x l = InBuild (λ x. writes_by l.cell x.processor x.attempt) part_is l.parts l.x-index l.writes.items
