use Rattle.std.proofs.Common.{drop}
use Rattle.text_out.proofs.Progress.{Progress}
use Rattle.svg_texts.specs.Shapes.{words_text}
use Rattle.pictures.specs.Steps.Marks.{cells_words}
use Rattle.pictures.proofs.steps.marks.write_cells.Given as goal

abbrev pub invariant-loop-cell : goal.invariant-loop-cell
invariant-loop-cell g l = Progress (g.W.Out.state l.fn.out) (g.W.Out.state l.out) (words_text (cells_words l.fn.layout l.fn.cells))
    (words_text (cells_words l.fn.layout (drop l.cell-index l.fn.cells)))
