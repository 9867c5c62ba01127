use Rattle.std.proofs.Common.{sym, ap, ◌∙◌, arith, vec_capacity}
use Rattle.superstep_machine.specs.HeaderWords.{read_header}
use Rattle.superstep_machine.specs.WordReading.{ask_part}
use Rattle.combining.proofs.AllColumns.{same_of_all}
use Rattle.worker_exchange.specs.Rows.{message_at}
use Rattle.worker_exchange.proofs.PartLemmas.{one_kept}
use Rattle.worker_exchange.proofs.taking.keep_asks.Goals as goal

pub messages-preserved : goal.messages-preserved
messages-preserved g c =
    let rule = g.R.WriteRule.rule c.args.rule.now in
    let came = g.C.Column.came c.args.column.now in
    let j = c.messages.j in
    record {
      words = one_kept c.messages.asked j c.put_words.new.to (λ i. ask_part rule (read_header (message_at came i).header)
          (message_at came i).words)
          (omega arith)
          (c.put_words.ensures.words ∙ c.asks_of-words.ensures
          ∙ ap (λ h. ask_part rule h c.words.result.now) (c.from_words-header.ensures ∙ ap read_header c.header.ensures)
          ∙ ap (λ ws. ask_part rule (read_header (message_at came j).header) ws) c.words.ensures)
          c.messages.invariant.words;
      rooms = same_of_all vec_capacity c.messages.asked j c.index-asked-j.result c.put_words.new.to c.index-asked-j.is
          (c.put_words.ensures.room ∙ ap vec_capacity (sym c.index-asked-j.is)) ∙ c.messages.invariant.rooms;
    }
