use Rattle.std.proofs.Common.{drop}
use Rattle.text_out.proofs.Progress.{Progress}
use Rattle.pictures.specs.Steps.Columns.{all_met}
use Rattle.svg_texts.specs.Shapes.{shape_text}
use Rattle.pictures.specs.Steps.Measures.{column_is}
use Rattle.pictures.proofs.steps.columns.write_all_met.Given as goal

abbrev pub invariant-loop-index : goal.invariant-loop-index
invariant-loop-index g l =
    Progress (g.W.Out.state l.fn.out) (g.W.Out.state l.out) (shape_text (all_met l.fn.rows (column_is l.fn.at) l.fn.met))
    (shape_text (all_met l.fn.rows (column_is l.fn.at) (drop l.index-index l.fn.met)))
