-- The same message from each of two workers.
use Rattle.std.specs.Prelude.{ℕ, zero, suc, ◌≤◌, List, [], ◌∷◌, length}
use Rattle.std.proofs.Common.{arith}
use Rattle.worker_exchange.specs.Rows.{WrittenMessage, message_at}

abbrev pub told_by : List ℕ → List ℕ → WrittenMessage
told_by header words = record { header = header; words = words }

-- a message has no more words than the one that came from both
pub none_longer : (x : WrittenMessage) (i : ℕ) → length (message_at (x ∷ x ∷ []) i).words ≤ length x.words
none_longer x zero = omega arith
none_longer x (suc zero) = omega arith
none_longer x (suc (suc i)) = omega arith
