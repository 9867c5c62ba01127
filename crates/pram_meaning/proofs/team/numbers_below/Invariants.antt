use Rattle.pram_meaning.proofs.Teams.{InNumbers}
use Rattle.pram_meaning.proofs.team.numbers_below.Given as goal

abbrev pub invariant-loop-v : goal.invariant-loop-v
invariant-loop-v l = InNumbers l.count l.v l.all.items
