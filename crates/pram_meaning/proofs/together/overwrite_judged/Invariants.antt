use Rattle.std.proofs.Common.{map, drop}
use Rattle.pram_meaning.specs.Accesses.{writes_made}
use Rattle.pram_meaning.specs.Judging.{part_is}
use Rattle.pram_meaning.proofs.Overwrites.{InOver}
use Rattle.pram_meaning.proofs.together.overwrite_judged.Given as goal

abbrev pub invariant-loop-one : goal.invariant-loop-one
invariant-loop-one l =
    InOver l.fn.rule (writes_made (map part_is l.fn.parts)) (drop l.one-index (writes_made (map part_is l.fn.parts)))
    l.fn.cells.items l.cells.items
