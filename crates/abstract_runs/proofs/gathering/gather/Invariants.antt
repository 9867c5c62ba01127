use Rattle.abstract_runs.proofs.Gathered.{InGathered}
use Rattle.abstract_runs.proofs.gathering.gather.Given as goal

abbrev pub invariant-loop-j : goal.invariant-loop-j
invariant-loop-j l = InGathered l.first l.count l.locals l.j l.team.items
