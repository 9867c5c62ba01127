use Rattle.std.proofs.Common.{drop}
use Rattle.text_out.proofs.Progress.{Progress}
use Rattle.svg_texts.specs.Shapes.{points_text}
use Rattle.pictures.specs.Sizes.Marks.{points}
use Rattle.pictures.proofs.sizes.line.write_points.Given as goal

abbrev pub invariant-loop-row : goal.invariant-loop-row
invariant-loop-row g l =
    Progress (g.W.Out.state l.fn.out) (g.W.Out.state l.out) (points_text (points l.fn.frame l.fn.rows)) (points_text (points l.fn.frame
    (drop l.row-index l.fn.rows)))
