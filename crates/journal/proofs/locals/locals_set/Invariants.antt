use Rattle.std.specs.Prelude.{map}
use Rattle.pram_meaning.specs.Judging.{part_is}
use Rattle.pram_meaning.specs.Sets.{member_is}
use Rattle.pram_meaning.proofs.Folds.{InBuild}
use Rattle.journal.specs.Locals.{set_by}
use Rattle.journal.proofs.locals.locals_set.Given as goal

abbrev pub invariant-loop-x : goal.invariant-loop-x
invariant-loop-x l = InBuild (set_by l.local (map member_is l.team)) part_is l.parts l.x-index l.changes.items
