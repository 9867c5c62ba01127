use Rattle.std.proofs.Common.{◌≡◌, length}
use Rattle.abstract_runs.specs.Likeness.{IsLike}
use Rattle.abstract_runs.proofs.Each.{ToEach}
use Rattle.abstract_runs.proofs.TeamLists.{Holds}
use Rattle.abstract_runs.proofs.teams.grow_team.Given as goal

-- each holds what it held, and those gone over what the other at their place holds
abbrev pub invariant-loop-k : goal.invariant-loop-k
invariant-loop-k l = record {
  same : length l.team.items ≡ length l.fn.team.items;
  like : ToEach IsLike (length l.fn.team.items) l.fn.team.items l.team.items;
  left : ToEach Holds (length l.fn.team.items) l.fn.team.items l.team.items;
  right : ToEach Holds l.k l.fn.other l.team.items;
}
