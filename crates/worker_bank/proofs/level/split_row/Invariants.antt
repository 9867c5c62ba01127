use Rattle.std.proofs.Common.{◌≡◌, ◌≤◌, ◌-◌, length}
use Rattle.worker_bank.specs.Masks.{AreSplit}
use Rattle.worker_bank.proofs.level.split_row.Given as goal

abbrev pub invariant-blocks-2 : goal.invariant-blocks-2
invariant-blocks-2 l = record {
  split : AreSplit l.list l.column l.from l.active l.left l.counts;
  from : l.from ≤ length l.list;
  active_room : length l.active ≡ length l.fn.active;
  left_room : length l.left ≡ length l.fn.left;
}

abbrev pub decreases-blocks-2 : goal.decreases-blocks-2
decreases-blocks-2 l = length l.list - l.from
