use Rattle.std.proofs.Common.{◌≡◌, ℤ, Vec, Global, length}
use Rattle.std.specs.List.{AllByRecursion}
use Rattle.worker_bank.proofs.bank.columns.Given as goal

abbrev pub invariant-loop : goal.invariant-loop
invariant-loop l = record {
  rooms : AllByRecursion (λ (v : Vec ℤ Global). length v.items ≡ l.most) l.all.items;
  count : length l.all.items ≡ l.counter;
}
