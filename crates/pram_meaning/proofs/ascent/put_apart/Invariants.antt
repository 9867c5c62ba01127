use Rattle.std.proofs.Common.{map, drop}
use Rattle.pram_meaning.specs.Judging.{part_is}
use Rattle.pram_meaning.proofs.Apart.{InPut}
use Rattle.pram_meaning.proofs.ascent.put_apart.Given as goal

abbrev pub invariant-loop-x : goal.invariant-loop-x
invariant-loop-x l = InPut (map part_is l.parts) (map part_is (drop l.x-index l.parts)) l.fn.cells.items l.cells.items
