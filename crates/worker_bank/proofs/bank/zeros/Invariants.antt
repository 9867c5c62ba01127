use Rattle.std.specs.Prelude.{◌≡◌, length}
use Rattle.worker_bank.proofs.bank.zeros.Given as goal

abbrev pub invariant-loop-r : goal.invariant-loop-r
invariant-loop-r l = length l.all.items ≡ l.r
