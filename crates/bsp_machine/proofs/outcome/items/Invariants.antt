use Rattle.std.proofs.Common.{◌≡◌, ◌≤◌, ◌++◌, drop, length, vec_capacity}
use Rattle.superstep_machine.specs.Run.{items}
use Rattle.bsp_machine.proofs.outcome.items.Given as goal

abbrev pub invariant-loop-item : goal.invariant-loop-item
invariant-loop-item l = record {
  taken : l.found.items ++ items (drop l.item-index l.output) ≡ items l.output;
  few : length l.found.items ≤ l.item-index;
  room : length l.output ≤ vec_capacity l.found;
}
