use Rattle.std.proofs.Common.{drop, map}
use Rattle.text_out.proofs.Progress.{Progress}
use Rattle.std.specs.List.{filter}
use Rattle.svg_texts.specs.Shapes.{shape_text}
use Rattle.journal.specs.Entries.{act_is}
use Rattle.pictures.specs.Flows.Marks.{node, value_in, writes}
use Rattle.pictures.specs.Flows.MarkShapes.{each, node_shape}
use Rattle.pictures.proofs.flows.marks.write_nodes.Given as goal

abbrev pub invariant-loop-cell : goal.invariant-loop-cell
invariant-loop-cell g l = Progress (g.W.Out.state l.fn.out) (g.W.Out.state l.out)
    (shape_text (each (node_shape l.fn.rows) (map (node l.fn.column (value_in (map act_is l.fn.acts) l.fn.written))
    (filter (writes (map act_is l.fn.acts)) l.fn.rows))))
    (shape_text (each (node_shape l.fn.rows) (map (node l.fn.column (value_in (map act_is l.fn.acts) l.fn.written))
    (filter (writes (map act_is l.fn.acts)) (drop l.cell-index l.fn.rows)))))
