use Rattle.std.proofs.Common.{◌≡◌, ◌≤◌, length, vec_capacity}
use Rattle.std.specs.Prelude.{All}
use Rattle.turnstile.specs.Benches.{IsBare}
use Rattle.turnstile.proofs.opening.benches.Given as goal

abbrev pub invariant-loop : goal.invariant-loop
invariant-loop l = record {
  count : length l.benches.items ≡ l.counter;
  bare : All (IsBare l.workers) l.benches.items;
  fits : l.workers ≤ vec_capacity l.benches;
}
