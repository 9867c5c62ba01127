use Rattle.std.proofs.Common.{rules}
use Rattle.abstract_runs.proofs.TeamLists.{members_each}
use Rattle.abstract_runs.proofs.teams.is_team_within.Goals as goal

pub returns : goal.returns
returns c = λ e gs h.
    members_each c.args.team.now c.args.other.now gs c.loop-k.k c.loop-k.invariant (search rules) (search rules) h
