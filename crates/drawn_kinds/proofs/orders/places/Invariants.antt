use Rattle.std.proofs.Common.{◌≡◌, length}
use Rattle.drawn_kinds.specs.Orders as spec
use Rattle.drawn_kinds.proofs.orders.places.Given as goal

abbrev pub invariant-loop-place : goal.invariant-loop-place
invariant-loop-place l = record {
  places : l.found.items ≡ spec.places l.place;
  count : length l.found.items ≡ l.place;
}
