use Rattle.std.proofs.Common.{◌≡◌, ◌<◌, ℕ, map, vec_capacity}
use Rattle.superstep_machine.specs.HeaderWords.{read_header}
use Rattle.superstep_machine.specs.WordReading.{ask_part}
use Rattle.combining.specs.AllModules.{column}
use Rattle.worker_exchange.specs.Rows.{message_at}
use Rattle.worker_exchange.specs.Sends.{words_of}
use Rattle.worker_exchange.proofs.taking.keep_asks.Given as goal

abbrev pub invariant-messages : goal.invariant-messages
invariant-messages g l = record {
  words : (i : ℕ) → i < l.j → column (words_of l.asked) i
      ≡ ask_part (g.R.WriteRule.rule l.rule) (read_header (message_at (g.C.Column.came l.column) i).header)
      (message_at (g.C.Column.came l.column) i).words;
  rooms : map vec_capacity l.asked ≡ map vec_capacity l.fn.asked;
}
