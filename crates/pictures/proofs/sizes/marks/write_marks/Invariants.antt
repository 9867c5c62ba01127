use Rattle.std.proofs.Common.{drop}
use Rattle.text_out.proofs.Progress.{Progress}
use Rattle.svg_texts.specs.Shapes.{shape_text}
use Rattle.pictures.specs.Sizes.Marks.{marks}
use Rattle.pictures.proofs.sizes.marks.write_marks.Given as goal

abbrev pub invariant-loop-row : goal.invariant-loop-row
invariant-loop-row g l =
    Progress (g.W.Out.state l.fn.out) (g.W.Out.state l.out) (shape_text (marks l.fn.name l.fn.frame l.fn.rows)) (shape_text (marks
    l.fn.name l.fn.frame (drop
    l.row-index l.fn.rows)))
