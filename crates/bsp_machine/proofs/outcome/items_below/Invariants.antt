use Rattle.std.proofs.Common.{◌≡◌, ◌≤◌, ◌++◌, drop, length, vec_capacity}
use Rattle.superstep_machine.specs.Run.{items_below}
use Rattle.bsp_machine.proofs.outcome.items_below.Given as goal

abbrev pub invariant-loop-item : goal.invariant-loop-item
invariant-loop-item l = record {
  taken : l.found.items ++ items_below l.count (drop l.item-index l.output) ≡ items_below l.count l.output;
  few : length l.found.items ≤ l.item-index;
  room : length l.output ≤ vec_capacity l.found;
}
