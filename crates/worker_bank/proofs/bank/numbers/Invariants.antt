use Rattle.std.proofs.Common.{◌≡◌, ℕ, ◌+◌, ◌*◌, ◌<◌, length, pos}
use Rattle.worker_bank.specs.Columns.{value_of}
use Rattle.worker_bank.proofs.bank.numbers.Given as goal

abbrev pub invariant-loop-j : goal.invariant-loop-j
invariant-loop-j l = record {
  count : length l.all.items ≡ l.most;
  each : (k : ℕ) → k < l.j → value_of l.all.items k ≡ pos (l.worker + l.workers * k);
}
