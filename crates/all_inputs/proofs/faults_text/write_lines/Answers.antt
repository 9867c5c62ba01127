use Rattle.text_out.proofs.Items.{at_item}
use Rattle.text_out.proofs.Progress.{breaks_off, goes_on}
use Rattle.all_inputs.specs.OverallText.{fault_lines}
use Rattle.all_inputs.proofs.faults_text.write_lines.Goals as goal

pub returns-in_err-write_kinds : goal.returns-in_err-write_kinds
returns-in_err-write_kinds g c =
    let at = at_item (fault_lines c.args.layout.now c.args.words.now) c.args.entries.now c.loop-entry.entry-index
    c.entry-item.result c.loop-entry-test.true c.entry-item.is in
    record {
      written = breaks_off _ _ _ _ _ _ _ c.from_residual.result _ c.from_residual.ensures.1 c.loop-entry.invariant at
          c.in_err-write_kinds.ensures.written;
    }

pub loop-entry-preserved : goal.loop-entry-preserved
loop-entry-preserved g c =
    let at = at_item (fault_lines c.args.layout.now c.args.words.now) c.args.entries.now c.loop-entry.entry-index
    c.entry-item.result c.loop-entry-test.true c.entry-item.is in
    goes_on _ _ _ _ _ _ _ c.loop-entry.invariant at c.in_ok-write_kinds.ensures.written
