use Rattle.std.proofs.Common.{drop, map}
use Rattle.text_out.proofs.Progress.{Progress}
use Rattle.std.specs.List.{filter}
use Rattle.std.specs.Prelude.{None}
use Rattle.svg_texts.specs.Shapes.{shape_text}
use Rattle.journal.specs.Entries.{act_is}
use Rattle.pictures.specs.Flows.Marks.{carries, reading}
use Rattle.pictures.specs.Flows.MarkShapes.{each, reading_shape}
use Rattle.pictures.proofs.flows.marks.write_readings.Given as goal

abbrev pub invariant-loop-cell : goal.invariant-loop-cell
invariant-loop-cell g l = Progress (g.W.Out.state l.fn.out) (g.W.Out.state l.out)
    (shape_text (each (reading_shape l.fn.rows) (map (reading l.fn.column) (filter (λ cell. carries (map act_is l.fn.acts) cell None)
    l.fn.rows))))
    (shape_text (each (reading_shape l.fn.rows) (map (reading l.fn.column) (filter (λ cell. carries (map act_is l.fn.acts) cell None)
    (drop l.cell-index l.fn.rows)))))
