use Rattle.std.proofs.Common.{drop}
use Rattle.text_out.proofs.Progress.{Progress}
use Rattle.all_inputs.specs.OverallText.{declared_lines}
use Rattle.all_inputs.proofs.end_text.write_declared_lines.Given as goal

abbrev pub invariant-loop-i : goal.invariant-loop-i
invariant-loop-i g l =
    Progress (g.W.Out.state l.fn.out) (g.W.Out.state l.out) (declared_lines l.fn.layout l.fn.end.declared.items)
    (declared_lines (drop l.i l.fn.layout) (drop l.i l.fn.end.declared.items))
