use Rattle.std.specs.Prelude.{map}
use Rattle.pram_meaning.specs.Judging.{part_is}
use Rattle.pram_meaning.specs.Sets.{member_is}
use Rattle.pram_meaning.proofs.Folds.{InBuild}
use Rattle.journal.specs.Entries.{own_is}
use Rattle.journal.specs.FaultLocals.{locals_if}
use Rattle.journal.proofs.fault_locals.locals_in.Given as goal

abbrev pub invariant-loop-x : goal.invariant-loop-x
invariant-loop-x l =
    InBuild (locals_if l.key (map member_is l.team)) part_is l.parts l.x-index (map own_is l.all.items)
