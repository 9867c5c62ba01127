use Rattle.std.proofs.Common.{◌≡◌, ◌+◌, ◌≤◌, ◌++◌, map, length, vec_capacity, deque_capacity, Some}
use Rattle.turnstile.proofs.shelf.lay_out.Given as goal

abbrev pub invariant-loop-slots : goal.invariant-loop-slots
invariant-loop-slots l = record {
  moved : map Some l.list.items ++ l.slots.items ≡ map Some l.initial.list.items ++ l.initial.slots.items;
  fits : length l.slots.items + length l.list.items ≤ deque_capacity l.slots;
  same : deque_capacity l.slots ≡ deque_capacity l.initial.slots;
  list : vec_capacity l.list ≡ vec_capacity l.initial.list;
}

abbrev pub decreases-loop-slots : goal.decreases-loop-slots
decreases-loop-slots l = length l.list.items
