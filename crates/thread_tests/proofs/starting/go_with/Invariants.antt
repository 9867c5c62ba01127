use Rattle.std.proofs.Common.{◌≡◌, ◌≤◌, length, vec_capacity}
use Rattle.thread_tests.proofs.starting.go_with.Given as goal

abbrev pub invariant-loop-at : goal.invariant-loop-at
invariant-loop-at g l = record {
  count : length l.items.items ≡ l.at;
  fits : l.count ≤ vec_capacity l.items;
}
