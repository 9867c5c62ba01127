use Rattle.std.proofs.Common.{map}
use Rattle.pram_meaning.specs.Judging.{part_is}
use Rattle.pram_meaning.proofs.Columns.{InColumns}
use Rattle.pram_meaning.proofs.conflict.add_conflicts.Given as goal

abbrev pub invariant-loop-at : goal.invariant-loop-at
invariant-loop-at l = InColumns (map part_is l.parts) l.at-end l.at l.fn.best l.best
