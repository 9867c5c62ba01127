use Rattle.std.proofs.Common.{drop}
use Rattle.text_out.proofs.Progress.{Progress}
use Rattle.svg_texts.specs.Shapes.{shape_text}
use Rattle.pictures.specs.Sizes.Labels.{labels}
use Rattle.pictures.proofs.sizes.labels.write_labels.Given as goal

abbrev pub invariant-loop-row : goal.invariant-loop-row
invariant-loop-row g l =
    Progress (g.W.Out.state l.fn.out) (g.W.Out.state l.out) (shape_text (labels l.fn.kind l.fn.frame 0 l.fn.rows))
    (shape_text (labels l.fn.kind l.fn.frame l.last (drop l.row-index l.fn.rows)))
