use Rattle.pram_meaning.proofs.Teams.{InTeam}
use Rattle.pram_meaning.proofs.team.gather.Given as goal

abbrev pub invariant-loop-j : goal.invariant-loop-j
invariant-loop-j l = InTeam l.low l.count l.locals l.j l.team.items
