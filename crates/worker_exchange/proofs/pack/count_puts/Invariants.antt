use Rattle.std.proofs.Common.{◌≡◌, ◌<◌, ◌/◌, ℕ, length}
use Rattle.combining.specs.AllModules.{column}
use Rattle.worker_exchange.specs.Sends.{words_of, count_at}
use Rattle.worker_exchange.proofs.pack.count_puts.Given as goal

abbrev pub invariant-columns : goal.invariant-columns
invariant-columns g l = record {
  counts : (i : ℕ) → i < l.j → count_at l.counts i ≡ length (column (words_of l.columns) i) / l.size;
}
