use Rattle.std.proofs.Common.{◌≡◌, length, vec_capacity}
use Rattle.std.specs.List.{range_with_len}
use Rattle.worker_bank.proofs.level.numbers.Given as goal

abbrev pub invariant-loop-j : goal.invariant-loop-j
invariant-loop-j l = record {
  items : l.all.items ≡ range_with_len 0 l.j;
  long : length l.all.items ≡ l.j;
  room : vec_capacity l.all ≡ l.count;
}
