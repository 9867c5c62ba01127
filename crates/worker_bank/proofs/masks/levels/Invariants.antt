use Rattle.std.proofs.Common.{◌≡◌, ◌+◌, [], length}
use Rattle.std.specs.List.{AllByRecursion, range_with_len}
use Rattle.worker_bank.specs.Masks.{all_at, set_at, IsLevel}
use Rattle.worker_bank.proofs.masks.levels.Given as goal

abbrev pub invariant-loop : goal.invariant-loop
invariant-loop l = record {
  levels : AllByRecursion (IsLevel l.most) l.all.items;
  count : length l.all.items ≡ l.counter + 1;
  everyone : all_at l.all.items 0 ≡ range_with_len 0 l.most;
  none : set_at l.all.items 0 ≡ [];
}
