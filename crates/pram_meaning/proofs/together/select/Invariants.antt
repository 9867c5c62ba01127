use Rattle.pram_meaning.specs.Together.{those_of}
use Rattle.pram_meaning.specs.Judging.{part_is}
use Rattle.pram_meaning.proofs.Folds.{InBuild}
use Rattle.pram_meaning.proofs.together.select.Given as goal

abbrev pub invariant-loop-x : goal.invariant-loop-x
invariant-loop-x l = InBuild (those_of l.wanted) part_is l.x-items l.x-index l.chosen.items
