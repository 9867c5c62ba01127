use Rattle.std.proofs.Common.{◌≡◌, ◌≤◌, ◌<◌, ◌^◌, true}
use Rattle.scopes.proofs.Counts.{many}
use Rattle.scopes.proofs.counting.input_count.Given as goal

-- of so many places
abbrev pub invariant-loop-place : goal.invariant-loop-place
invariant-loop-place l = record {
  so_far : l.product ≡ many l.fn.scope.apart l.wide l.place;
  small : l.product < 2 ^ 64;
  room : l.fn.scope.apart ≡ true → l.fn.scope.count ≤ l.wide;
}
