use Rattle.svg_texts.specs.Shapes.{shape_text}
use Rattle.pictures.specs.Steps.Bands.{labels_from}
use Rattle.pictures.proofs.OfSteps.ColumnTexts.{InLabels}
use Rattle.pictures.proofs.steps.bands.write_labels.Given as goal

abbrev pub invariant-loop-index : goal.invariant-loop-index
invariant-loop-index g l =
    InLabels (g.W.Out.state l.fn.out) (g.W.Out.state l.out) (shape_text (labels_from l.fn.top 1 l.fn.rows)) l.fn.top l.fn.rows
    l.index-index l.before
