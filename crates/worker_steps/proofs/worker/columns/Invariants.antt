use Rattle.std.proofs.Common.{◌≡◌, ℕ, Option, Vec, Global, length}
use Rattle.std.specs.List.{AllByRecursion}
use Rattle.worker_steps.proofs.worker.columns.Given as goal

abbrev pub invariant-loop : goal.invariant-loop
invariant-loop l = record {
  long : AllByRecursion (λ (v : Vec (Option ℕ) Global). length v.items ≡ l.most) l.all.items;
  count : length l.all.items ≡ l.counter;
}
