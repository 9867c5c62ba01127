use Rattle.std.proofs.Common.{◌≡◌, ◌≤◌, ◌+◌, ◌++◌, length, true, vec_capacity}
use Rattle.exchange_counts.specs.Columns.{columns_of}
use Rattle.bsp_machine.specs.Workers.{AreKept}
use Rattle.bsp_machine.specs.Ended.{counts_of}
use Rattle.bsp_machine.proofs.columns.take_columns.Given as goal

abbrev pub invariant-loop-worker : goal.invariant-loop-worker
invariant-loop-worker l = record {
  taken : columns_of l.columns.items ++ counts_of l.worker-iterator.rest.items ≡ counts_of l.fn.workers.items;
  room : length l.columns.items + length l.worker-iterator.rest.items ≤ vec_capacity l.columns;
  kept : AreKept true l.worker-iterator.rest.items → AreKept true l.fn.workers.items;
  left : AreKept true l.fn.workers.items → AreKept true l.worker-iterator.rest.items;
}
