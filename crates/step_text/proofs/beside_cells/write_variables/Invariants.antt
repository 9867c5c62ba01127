use Rattle.std.proofs.Common.{drop}
use Rattle.text_out.proofs.Progress.{Progress}
use Rattle.step_text.specs.BesideCells.{variables_text}
use Rattle.step_text.proofs.beside_cells.write_variables.Given as goal

abbrev pub invariant-loop-change : goal.invariant-loop-change
invariant-loop-change g l = Progress (g.W.Out.state l.fn.out) (g.W.Out.state l.out) (variables_text l.fn.tree l.fn.changes)
    (variables_text l.fn.tree (drop l.change-index l.fn.changes))
