use Rattle.std.proofs.Common.{◌≡◌, ℕ, ◌<◌, length, get_or, Some, pos}
use Rattle.worker_bank.proofs.masking.zero.Given as goal

abbrev pub invariant-loop-r : goal.invariant-loop-r
invariant-loop-r l = record {
  each : (k : ℕ) → k < l.r → get_or l.constants k (Some (pos 0)) ≡ Some (pos 0);
  count : length l.constants ≡ length l.fn.constants;
}
