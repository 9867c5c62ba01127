use Rattle.pram_meaning.proofs.Ascents.{InAscent, write_by}
use Rattle.pram_meaning.proofs.ascent.writes_ascend.Given as goal

abbrev pub invariant-loop-x : goal.invariant-loop-x
invariant-loop-x l = InAscent write_by l.parts l.x-index l.least
