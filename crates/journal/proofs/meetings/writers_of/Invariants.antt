use Rattle.pram_meaning.specs.Judging.{part_is}
use Rattle.pram_meaning.proofs.Folds.{InBuild}
use Rattle.journal.specs.Meeting.{writer}
use Rattle.journal.proofs.meetings.writers_of.Given as goal

abbrev pub invariant-loop-x : goal.invariant-loop-x
invariant-loop-x l = InBuild (writer l.cell) part_is l.parts l.x-index l.indices.items
