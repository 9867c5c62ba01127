use Rattle.std.proofs.Common.{arith}
use Rattle.worker_exchange.specs.Rows.{message_at}
use Rattle.worker_exchange.proofs.PartLemmas.{one_part}
use Rattle.worker_exchange.proofs.parts.word_parts.Goals as goal

pub messages-preserved : goal.messages-preserved
messages-preserved g c =
    let came = g.C.Column.came c.args.column.now in
    let i = c.messages.i in
    record {
      each = one_part c.messages.parts i c.words.result (λ j. (message_at came j).words) (omega arith) c.words.ensures
          c.messages.invariant.each;
    }
