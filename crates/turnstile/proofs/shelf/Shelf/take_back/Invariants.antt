use Rattle.std.proofs.Common.{◌≡◌, ◌*◌, ◌≤◌, ◌++◌, map, length, vec_capacity, Some}
use Rattle.turnstile.proofs.shelf.Shelf.take_back.Given as goal

abbrev pub invariant-loop : goal.invariant-loop
invariant-loop l = record {
  moved : map Some l.list.items ++ l.slots.items ≡ l.initial.slots.items;
  count : length l.list.items ≡ l.counter;
  fits : l.side * l.side ≤ vec_capacity l.list;
}
