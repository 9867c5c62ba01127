use Rattle.pram_meaning.proofs.Columns.{InLongest}
use Rattle.pram_meaning.proofs.access.last_position.Given as goal

abbrev pub invariant-loop-x : goal.invariant-loop-x
invariant-loop-x l = InLongest l.parts l.x-index l.last
