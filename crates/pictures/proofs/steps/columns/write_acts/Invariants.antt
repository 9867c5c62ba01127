use Rattle.std.proofs.Common.{drop, map}
use Rattle.text_out.proofs.Progress.{Progress}
use Rattle.journal.specs.Entries.{act_is}
use Rattle.pictures.specs.Steps.Columns.{acts_drawn}
use Rattle.svg_texts.specs.Shapes.{shape_text}
use Rattle.pictures.specs.Steps.Measures.{column_is}
use Rattle.pictures.proofs.steps.columns.write_acts.Given as goal

abbrev pub invariant-loop-act : goal.invariant-loop-act
invariant-loop-act g l =
    Progress (g.W.Out.state l.fn.out) (g.W.Out.state l.out) (shape_text (acts_drawn l.fn.layout l.fn.rows (column_is l.fn.at)
    (map act_is l.fn.acts)))
    (shape_text (acts_drawn l.fn.layout l.fn.rows (column_is l.fn.at) (map act_is (drop l.act-index l.fn.acts))))
