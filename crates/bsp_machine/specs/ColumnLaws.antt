-- No message of a column has more words than the longest.
use Rattle.std.proofs.Common.{ℕ, zero, suc, ◌≤◌, List, [], ◌∷◌, length, arith}
use Rattle.std.proofs.lemmas.Bool.Decides.{nat_tests}
use Rattle.worker_exchange.specs.Rows.{WrittenMessage, message_at}
use Rattle.bsp_machine.specs.Sheets.{longest}

pub none_longer : (came : List WrittenMessage) (i : ℕ) → length (message_at came i).words ≤ longest came
none_longer [] i = omega arith
none_longer (x ∷ came) zero = grind (arith, nat_tests)
none_longer (x ∷ came) (suc i) = let h = none_longer came i in grind (arith, nat_tests, h)
