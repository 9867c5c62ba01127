use Rattle.std.proofs.Common.{map}
use Rattle.pram_meaning.specs.Sets.{member_is}
use Rattle.pram_meaning.proofs.Sets.{InLocals}
use Rattle.pram_meaning.proofs.team.set_locals.Given as goal

abbrev pub invariant-loop-x : goal.invariant-loop-x
invariant-loop-x l = InLocals l.place l.parts l.x-index (map member_is l.fn.team.items) (map member_is l.team.items)
