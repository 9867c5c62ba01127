use Rattle.std.proofs.Common.{◌≡◌, ◌<◌, ℕ, [], map, vec_capacity}
use Rattle.combining.specs.AllModules.{column}
use Rattle.worker_exchange.specs.Sends.{words_of}
use Rattle.worker_exchange.proofs.replying.forget.Given as goal

abbrev pub invariant-workers : goal.invariant-workers
invariant-workers l = record {
  none : (i : ℕ) → i < l.j → column (words_of l.asked) i ≡ [];
  rooms : map vec_capacity l.asked ≡ map vec_capacity l.initial.asked;
}
