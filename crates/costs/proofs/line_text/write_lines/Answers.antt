use Rattle.text_out.proofs.Writing.{writes_stopped}
use Rattle.text_out.proofs.Progress.{goes_on, stops}
use Rattle.costs.proofs.Lines.{lines_at}
use Rattle.costs.proofs.line_text.write_lines.Goals as goal

-- the writer stopped within one line
pub returns-in_err-write_line : goal.returns-in_err-write_line
returns-in_err-write_line g c =
    let at = lines_at c.args.lines.now c.loop-cost.cost-index _ c.loop-cost-test.true in
    record {
      written = writes_stopped _ _ _ c.from_residual.result _ c.from_residual.ensures.1
          (stops _ _ _ _ _ _ _ c.loop-cost.invariant at c.in_err-write_line.ensures.written);
    }

pub loop-cost-preserved : goal.loop-cost-preserved
loop-cost-preserved g c =
    let at = lines_at c.args.lines.now c.loop-cost.cost-index _ c.loop-cost-test.true in
    goes_on _ _ _ _ _ _ _ c.loop-cost.invariant at c.in_ok-write_line.ensures.written
