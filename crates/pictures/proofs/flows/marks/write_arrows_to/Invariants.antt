use Rattle.std.proofs.Common.{drop, map}
use Rattle.text_out.proofs.Progress.{Progress}
use Rattle.std.specs.List.{filter}
use Rattle.std.specs.Prelude.{Some}
use Rattle.svg_texts.specs.Shapes.{shape_text}
use Rattle.journal.specs.Entries.{act_is}
use Rattle.pictures.specs.Flows.Marks.{arrow_by, carries}
use Rattle.pictures.specs.Flows.MarkShapes.{each, arrow_shape}
use Rattle.pictures.proofs.flows.marks.write_arrows_to.Given as goal

abbrev pub invariant-loop-from : goal.invariant-loop-from
invariant-loop-from g l = Progress (g.W.Out.state l.fn.out) (g.W.Out.state l.out)
    (shape_text (each (arrow_shape l.fn.rows) (map (arrow_by l.fn.column l.fn.aside (map act_is l.fn.acts) l.fn.to)
    (filter (λ from. carries (map act_is l.fn.acts) from (Some l.fn.to)) l.fn.rows))))
    (shape_text (each (arrow_shape l.fn.rows) (map (arrow_by l.fn.column l.fn.aside (map act_is l.fn.acts) l.fn.to)
    (filter (λ from. carries (map act_is l.fn.acts) from (Some l.fn.to)) (drop l.from-index l.fn.rows)))))
