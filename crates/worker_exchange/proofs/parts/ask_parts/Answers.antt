use Rattle.std.proofs.Common.{ap, ◌∙◌, arith}
use Rattle.superstep_machine.specs.HeaderWords.{read_header}
use Rattle.superstep_machine.specs.WordReading.{ask_part}
use Rattle.worker_exchange.specs.Rows.{message_at}
use Rattle.worker_exchange.proofs.PartLemmas.{one_part}
use Rattle.worker_exchange.proofs.parts.ask_parts.Goals as goal

pub messages-preserved : goal.messages-preserved
messages-preserved g c =
    let rule = g.R.WriteRule.rule c.args.rule.now in
    let came = g.C.Column.came c.args.column.now in
    let i = c.messages.i in
    record {
      each = one_part c.messages.parts i c.asks_of.result (λ j. ask_part rule (read_header (message_at came j).header)
          (message_at came j).words)
          (omega arith)
          (c.asks_of.ensures ∙ ap (λ h. ask_part rule h c.words.result.now) (c.from_words-header.ensures ∙ ap read_header c.header.ensures)
          ∙ ap (λ ws. ask_part rule (read_header (message_at came i).header) ws) c.words.ensures)
          c.messages.invariant.each;
    }
