use Rattle.std.proofs.Common.{◌≡◌, ◌<◌, ℕ}
use Rattle.superstep_machine.specs.HeaderWords.{read_header}
use Rattle.superstep_machine.specs.WordReading.{ask_part}
use Rattle.worker_exchange.specs.Rows.{message_at}
use Rattle.worker_exchange.specs.Parts.{part_at}
use Rattle.worker_exchange.proofs.parts.ask_parts.Given as goal

abbrev pub invariant-messages : goal.invariant-messages
invariant-messages g l = record {
  each : (i : ℕ) → i < l.i → part_at l.parts i
      ≡ ask_part (g.R.WriteRule.rule l.rule) (read_header (message_at (g.C.Column.came l.column) i).header)
      (message_at (g.C.Column.came l.column) i).words;
}
