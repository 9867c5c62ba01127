use Rattle.text_out.proofs.Writing.{writes_stopped}
use Rattle.text_out.proofs.Progress.{goes_on, stops}
use Rattle.program_texts.proofs.ShownLemmas.{items_at}
use Rattle.program_texts.proofs.show_parts.write_items.Goals as goal

-- the writer stopped within one line
pub returns-in_err-write_parts : goal.returns-in_err-write_parts
returns-in_err-write_parts g c =
    let at = items_at c.args.items.now c.loop-item.item-index _ _ c.loop-item-test.true c.decimal.ensures in
    record {
      written = writes_stopped _ _ _ c.from_residual.result _ c.from_residual.ensures.1
          (stops _ _ _ _ _ _ _ c.loop-item.invariant at c.in_err-write_parts.ensures.written);
    }

pub loop-item-preserved : goal.loop-item-preserved
loop-item-preserved g c =
    let at = items_at c.args.items.now c.loop-item.item-index _ _ c.loop-item-test.true c.decimal.ensures in
    goes_on _ _ _ _ _ _ _ c.loop-item.invariant at c.in_ok-write_parts.ensures.written
