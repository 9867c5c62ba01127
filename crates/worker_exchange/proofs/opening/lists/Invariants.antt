use Rattle.std.proofs.Common.{◌≡◌, ℕ, ◌<◌, [], length, map, vec_capacity}
use Rattle.combining.specs.AllModules.{column, room_at}
use Rattle.worker_exchange.specs.Sends.{words_of}
use Rattle.worker_exchange.proofs.opening.lists.Given as goal

abbrev pub invariant-workers : goal.invariant-workers
invariant-workers l = record {
  count : length l.all.items ≡ l._j;
  room : (j : ℕ) → j < l._j → room_at (map vec_capacity l.all.items) j ≡ l.most;
  empty : (j : ℕ) → column (words_of l.all.items) j ≡ [];
}
