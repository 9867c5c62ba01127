use Rattle.std.proofs.Common.{◌≡◌, length}
use Rattle.worker_bank.specs.Masks.{AreSplit}
use Rattle.worker_bank.proofs.level.drop_all.Given as goal

abbrev pub invariant-places : goal.invariant-places
invariant-places l = record {
  split : AreSplit l.list l.column l.k l.active (l.left) (l.kept, l.dropped);
  left_room : length l.left ≡ length l.fn.left;
}
