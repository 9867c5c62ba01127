use Rattle.svg_texts.specs.Shapes.{shape_text}
use Rattle.pictures.specs.Flows.Values.{value_at}
use Rattle.pictures.proofs.OfFlows.ColumnLists.{InRowHeads}
use Rattle.pictures.specs.Flows.Table.{row_heads}
use Rattle.pictures.proofs.flows.row_heads.write_row_heads.Given as goal

abbrev pub invariant-loop-cell : goal.invariant-loop-cell
invariant-loop-cell g l = InRowHeads (g.W.Out.state l.fn.out) (g.W.Out.state l.out)
    (shape_text (row_heads l.fn.layout l.fn.wide (value_at l.fn.before) 0 l.fn.rows))
    l.fn.layout l.fn.wide (value_at l.fn.before) l.fn.rows l.cell-index l.row
