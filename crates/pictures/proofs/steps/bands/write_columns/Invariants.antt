use Rattle.std.proofs.Common.{map}
use Rattle.journal.specs.Entries.{entry_is}
use Rattle.svg_texts.specs.Shapes.{shape_text}
use Rattle.pictures.specs.Steps.Bands.{columns_from}
use Rattle.pictures.specs.Steps.Measures.{frame_is}
use Rattle.pictures.proofs.OfSteps.ColumnTexts.{InColumns}
use Rattle.pictures.proofs.steps.bands.write_columns.Given as goal

abbrev pub invariant-loop-entry : goal.invariant-loop-entry
invariant-loop-entry g l = InColumns (g.W.Out.state l.fn.out) (g.W.Out.state l.out)
    (shape_text (columns_from (frame_is l.fn.frame) l.fn.first l.fn.number (map entry_is l.fn.entries))) (frame_is l.fn.frame) l.fn.first
    l.fn.number
    l.fn.entries l.entry-index l.before
