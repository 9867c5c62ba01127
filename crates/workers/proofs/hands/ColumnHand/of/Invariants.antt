use Rattle.std.proofs.Common.{ℕ, ◌<◌, ◌≤◌, length}
use Rattle.std.specs.Prelude.{slice_index_or}
use Rattle.turnstile.specs.Turns.{blank}
use Rattle.workers.proofs.hands.ColumnHand.of.Given as goal

abbrev pub invariant-messages : goal.invariant-messages
invariant-messages l = (j : ℕ) → j < l.i → length (slice_index_or l.fn.seat.column j blank).words ≤ l.fn.seat.room
