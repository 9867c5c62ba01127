use Rattle.std.proofs.Common.{drop, map}
use Rattle.text_out.proofs.Progress.{Progress}
use Rattle.std.specs.List.{filter, flat_map}
use Rattle.svg_texts.specs.Shapes.{shape_text}
use Rattle.journal.specs.Entries.{act_is}
use Rattle.pictures.specs.Flows.Marks.{arrows_to, writes}
use Rattle.pictures.specs.Flows.MarkShapes.{each, arrow_shape}
use Rattle.pictures.proofs.flows.marks.write_arrows.Given as goal

abbrev pub invariant-loop-to : goal.invariant-loop-to
invariant-loop-to g l = Progress (g.W.Out.state l.fn.out) (g.W.Out.state l.out)
    (shape_text (each (arrow_shape l.fn.rows) (flat_map (arrows_to l.fn.rows l.fn.column l.fn.aside (map act_is l.fn.acts))
    (filter (writes (map act_is l.fn.acts)) l.fn.rows))))
    (shape_text (each (arrow_shape l.fn.rows) (flat_map (arrows_to l.fn.rows l.fn.column l.fn.aside (map act_is l.fn.acts))
    (filter (writes (map act_is l.fn.acts)) (drop l.to-index l.fn.rows)))))
