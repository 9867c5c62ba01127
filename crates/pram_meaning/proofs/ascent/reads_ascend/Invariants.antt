use Rattle.pram_meaning.proofs.Ascents.{InAscent, read_by}
use Rattle.pram_meaning.proofs.ascent.reads_ascend.Given as goal

abbrev pub invariant-loop-x : goal.invariant-loop-x
invariant-loop-x l = InAscent (read_by l.at) l.parts l.x-index l.least
