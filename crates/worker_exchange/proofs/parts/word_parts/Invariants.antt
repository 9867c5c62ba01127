use Rattle.std.proofs.Common.{◌≡◌, ◌<◌, ℕ}
use Rattle.worker_exchange.specs.Rows.{message_at}
use Rattle.worker_exchange.specs.Parts.{part_at}
use Rattle.worker_exchange.proofs.parts.word_parts.Given as goal

abbrev pub invariant-messages : goal.invariant-messages
invariant-messages g l = record {
  each : (i : ℕ) → i < l.i → part_at l.parts i ≡ (message_at (g.C.Column.came l.column) i).words;
}
