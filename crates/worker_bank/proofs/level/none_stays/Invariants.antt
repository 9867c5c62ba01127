use Rattle.std.proofs.Common.{◌≡◌, ◌≤◌, ◌<◌, ℕ, false}
use Rattle.pram_values.specs.Truth.{is_nonzero}
use Rattle.worker_bank.specs.Columns.{value_of}
use Rattle.worker_bank.proofs.level.none_stays.Given as goal

abbrev pub invariant-row : goal.invariant-row
invariant-row l = l.any ≡ false → (j : ℕ) → l.from ≤ j → j < l.j → is_nonzero (value_of l.column j) ≡ false
