use Rattle.std.proofs.Common.{◌≡◌, length}
use Rattle.drawn_kinds.specs.Kinds as spec
use Rattle.drawn_kinds.proofs.parents.parents.Given as goal

abbrev pub invariant-loop-turn : goal.invariant-loop-turn
invariant-loop-turn l = record {
  parents : l.found.items ≡ spec.parents_to l.turn l.words l.order;
  count : length l.found.items ≡ l.turn;
}
