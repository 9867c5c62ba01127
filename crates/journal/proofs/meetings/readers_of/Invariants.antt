use Rattle.pram_meaning.specs.Judging.{part_is}
use Rattle.pram_meaning.proofs.Folds.{InBuild}
use Rattle.journal.specs.Meeting.{reader}
use Rattle.journal.proofs.meetings.readers_of.Given as goal

abbrev pub invariant-loop-x : goal.invariant-loop-x
invariant-loop-x l = InBuild (reader l.at l.cell) part_is l.parts l.x-index l.indices.items
