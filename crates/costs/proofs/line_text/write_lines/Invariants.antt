use Rattle.std.proofs.Common.{drop}
use Rattle.text_out.proofs.Progress.{Progress}
use Rattle.costs.specs.CostText.{lines_text}
use Rattle.costs.proofs.line_text.write_lines.Given as goal

abbrev pub invariant-loop-cost : goal.invariant-loop-cost
invariant-loop-cost g l = Progress (g.W.Out.state l.fn.out) (g.W.Out.state l.out) (lines_text l.fn.lines)
    (lines_text (drop l.cost-index l.fn.lines))
