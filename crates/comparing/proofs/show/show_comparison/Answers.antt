use Rattle.text_out.proofs.Writing.{writes_stopped}
use Rattle.text_out.proofs.Progress.{goes_on, stops}
use Rattle.comparing.specs.Compared.{rules}
use Rattle.comparing.proofs.Lines.{lines_at}
use Rattle.comparing.proofs.show.show_comparison.Goals as goal

-- the writer stopped within one line
pub returns-in_err-write_line : goal.returns-in_err-write_line
returns-in_err-write_line g c =
    let at = lines_at c.args.comparison.now rules c.loop-rule.rule-index _ c.loop-rule-test.true in
    record {
      written = writes_stopped _ _ _ c.from_residual.result _ c.from_residual.ensures.1
          (stops _ _ _ _ _ _ _ c.loop-rule.invariant at c.in_err-write_line.ensures.written);
    }

pub loop-rule-preserved : goal.loop-rule-preserved
loop-rule-preserved g c =
    let at = lines_at c.args.comparison.now rules c.loop-rule.rule-index _ c.loop-rule-test.true in
    goes_on _ _ _ _ _ _ _ c.loop-rule.invariant at c.in_ok-write_line.ensures.written
