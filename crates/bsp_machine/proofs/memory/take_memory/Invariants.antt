use Rattle.std.proofs.Common.{◌≡◌, map, vec_capacity}
use Rattle.std.specs.List.{range_with_len}
use Rattle.bsp_machine.specs.Ended.{value_of}
use Rattle.bsp_machine.proofs.memory.take_memory.Given as goal

abbrev pub invariant-cells : goal.invariant-cells
invariant-cells g l = record {
  taken : l.memory.items ≡ map (value_of (g.M.AddressMap.shape l.map) l.workers) (range_with_len 0 l.cell);
  room : vec_capacity l.memory ≡ vec_capacity l.fn.memory;
}
