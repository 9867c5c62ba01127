use Rattle.std.proofs.Common.{drop}
use Rattle.text_out.proofs.Progress.{Progress}
use Rattle.all_inputs.specs.OverallText.{fault_lines}
use Rattle.all_inputs.proofs.faults_text.write_lines.Given as goal

abbrev pub invariant-loop-entry : goal.invariant-loop-entry
invariant-loop-entry g l =
    Progress (g.W.Out.state l.fn.out) (g.W.Out.state l.out) (fault_lines l.fn.layout l.fn.words l.fn.entries)
    (fault_lines l.fn.layout l.fn.words (drop l.entry-index l.fn.entries))
