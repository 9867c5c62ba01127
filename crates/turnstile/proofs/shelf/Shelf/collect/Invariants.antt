use Rattle.std.proofs.Common.{◌≡◌, ◌+◌, ◌*◌, ◌≤◌, vec_capacity}
use Rattle.std.specs.Slots.{slots_items, slots_len, slots_filled}
use Rattle.turnstile.specs.Shelves.{EmptyBelow, FullBetween}
use Rattle.turnstile.proofs.Shelvings.{StandFirst}
use Rattle.turnstile.proofs.shelf.Shelf.collect.Given as goal

abbrev pub invariant-loop-k : goal.invariant-loop-k
invariant-loop-k l = record {
  items : slots_items l.closed.slots ≡ slots_items l.initial.closed.slots;
  len : slots_len l.closed.slots ≡ slots_len l.initial.closed.slots;
  full : FullBetween (l.first + l.k) (slots_len l.initial.closed.slots) (slots_filled l.closed.slots);
  empty : EmptyBelow (l.first + l.k) (slots_filled l.closed.slots);
  stand : StandFirst l.block l.k l.list.items;
  fits : l.side * l.side ≤ vec_capacity l.list;
}
