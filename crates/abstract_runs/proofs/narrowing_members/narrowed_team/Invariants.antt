use Rattle.std.proofs.Common.{◌≡◌, length}
use Rattle.abstract_runs.proofs.Each.{ToEach}
use Rattle.abstract_runs.proofs.Members.{IsLeft}
use Rattle.abstract_runs.proofs.narrowing_members.narrowed_team.Given as goal

-- what is left of those gone over
abbrev pub invariant-loop-k : goal.invariant-loop-k
invariant-loop-k l = record {
  same : length l.inner.items ≡ l.k;
  left : ToEach (IsLeft l.program l.known l.e l.way) l.k l.fn.team l.inner.items;
}
