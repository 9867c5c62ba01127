use Rattle.std.proofs.Common.{rules}
use Rattle.abstract_runs.proofs.TeamLists.{like_each, members_each}
use Rattle.abstract_runs.proofs.teams.copied_team.Goals as goal

pub returns-clause-known : goal.returns-clause-known
returns-clause-known c = λ gs. (
  members_each c.args.team.now c.loop-k.copy.items gs c.loop-k.k c.loop-k.invariant.known (search rules) (search rules),
  members_each c.loop-k.copy.items c.args.team.now gs c.loop-k.k c.loop-k.invariant.back (search rules) (search rules),
)

pub returns-clause-like : goal.returns-clause-like
returns-clause-like c =
    like_each c.args.team.now c.loop-k.copy.items c.loop-k.k c.loop-k.invariant.like (search rules) (search rules)
