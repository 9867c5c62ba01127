use Rattle.abstract_runs.proofs.Each.{ToEach}
use Rattle.abstract_runs.proofs.TeamLists.{Holds}
use Rattle.abstract_runs.proofs.teams.is_team_within.Given as goal

-- those gone over stand for no more than the others
abbrev pub invariant-loop-k : goal.invariant-loop-k
invariant-loop-k l = ToEach Holds l.k l.fn.team l.fn.other
