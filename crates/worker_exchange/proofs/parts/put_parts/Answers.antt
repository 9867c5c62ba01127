use Rattle.std.proofs.Common.{ap, ◌∙◌, arith}
use Rattle.superstep_machine.specs.HeaderWords.{read_header}
use Rattle.superstep_machine.specs.WordReading.{put_part}
use Rattle.worker_exchange.specs.Rows.{message_at}
use Rattle.worker_exchange.proofs.PartLemmas.{one_part}
use Rattle.worker_exchange.proofs.parts.put_parts.Goals as goal

pub messages-preserved : goal.messages-preserved
messages-preserved g c =
    let rule = g.R.WriteRule.rule c.args.rule.now in
    let came = g.C.Column.came c.args.column.now in
    let i = c.messages.i in
    record {
      each = one_part c.messages.parts i c.puts_of.result (λ j. put_part rule (read_header (message_at came j).header)
          (message_at came j).words)
          (omega arith)
          (c.puts_of.ensures ∙ ap (λ h. put_part rule h c.words.result.now) (c.from_words-header.ensures ∙ ap read_header c.header.ensures)
          ∙ ap (λ ws. put_part rule (read_header (message_at came i).header) ws) c.words.ensures)
          c.messages.invariant.each;
    }
