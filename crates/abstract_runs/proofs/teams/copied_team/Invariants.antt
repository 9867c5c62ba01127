use Rattle.std.proofs.Common.{◌≡◌, length}
use Rattle.abstract_runs.specs.Likeness.{IsLike}
use Rattle.abstract_runs.proofs.Each.{ToEach}
use Rattle.abstract_runs.proofs.TeamLists.{Holds}
use Rattle.abstract_runs.proofs.teams.copied_team.Given as goal

-- those gone over have a copy
abbrev pub invariant-loop-k : goal.invariant-loop-k
invariant-loop-k l = record {
  same : length l.copy.items ≡ l.k;
  like : ToEach IsLike l.k l.fn.team l.copy.items;
  known : ToEach Holds l.k l.fn.team l.copy.items;
  back : ToEach Holds l.k l.copy.items l.fn.team;
}
