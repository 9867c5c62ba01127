use Rattle.std.proofs.Common.{◌≡◌, ◌-◌, drop, length}
use Rattle.std.specs.List.Sorted.{IsPermutation}
use Rattle.drawn_kinds.specs.Orders as spec
use Rattle.drawn_kinds.proofs.orders.shuffle.Given as goal

abbrev pub invariant-loop-turn : goal.invariant-loop-turn
invariant-loop-turn l = record {
  order : spec.shuffled (l.last - l.turn) (drop l.turn l.words) l.order ≡ spec.shuffled l.last l.words l.fn.order;
  permutation : IsPermutation l.fn.order l.order;
  count : length l.order ≡ length l.fn.order;
}
