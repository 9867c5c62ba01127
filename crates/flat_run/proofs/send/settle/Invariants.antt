use Rattle.std.proofs.Common.{◌-◌, length}
use Rattle.flat_run.proofs.CellLemmas.{AreSettled}
use Rattle.flat_run.proofs.send.settle.Given as goal

abbrev pub invariant-cells : goal.invariant-cells
invariant-cells l = AreSettled l.rule l.held l.fn.memory.items l.memory.items l.c

abbrev pub decreases-cells : goal.decreases-cells
decreases-cells l = length l.held - l.c
