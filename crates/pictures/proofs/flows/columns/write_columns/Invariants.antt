use Rattle.std.proofs.Common.{map}
use Rattle.svg_texts.specs.Shapes.{shape_text}
use Rattle.pictures.specs.Flows.Drawing.{column_is}
use Rattle.pictures.specs.Flows.Table.{columns}
use Rattle.pictures.proofs.OfFlows.ColumnLists.{InColumns}
use Rattle.pictures.proofs.flows.columns.write_columns.Given as goal

abbrev pub invariant-loop-column : goal.invariant-loop-column
invariant-loop-column g l = InColumns (g.W.Out.state l.fn.out) (g.W.Out.state l.out)
    (shape_text (columns l.fn.layout l.fn.text l.fn.rows 1 (map column_is l.fn.columns)))
    l.fn.layout l.fn.text l.fn.rows l.fn.columns l.column-index l.before
