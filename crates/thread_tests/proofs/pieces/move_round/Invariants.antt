use Rattle.std.proofs.Common.{◌≡◌, ◌+◌, ◌≤◌, ◌++◌, reverse, length, vec_len, vec_capacity}
use Rattle.thread_tests.proofs.pieces.move_round.Given as goal

-- what has moved and what is left make up the whole, turned round
abbrev pub invariant-loop-to : goal.invariant-loop-to
invariant-loop-to l = record {
  moved : l.initial.to.items ++ reverse l.initial.from.items ≡ l.to.items ++ reverse l.from.items;
  room : vec_len l.to + vec_len l.from ≤ vec_capacity l.to;
  capacity : vec_capacity l.from ≡ vec_capacity l.initial.from;
}

abbrev pub decreases-loop-to : goal.decreases-loop-to
decreases-loop-to l = length l.from.items
