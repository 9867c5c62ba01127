use Rattle.std.proofs.Common.{◌≡◌, ℕ, ◌<◌, [], map, vec_capacity}
use Rattle.combining.specs.AllModules.{column}
use Rattle.worker_exchange.specs.Sends.{words_of}
use Rattle.worker_exchange.proofs.pack.clear_all.Given as goal

abbrev pub invariant-columns : goal.invariant-columns
invariant-columns l = record {
  words : (i : ℕ) → i < l.j → column (words_of l.columns) i ≡ [];
  rooms : map vec_capacity l.columns ≡ map vec_capacity l.fn.columns;
}
