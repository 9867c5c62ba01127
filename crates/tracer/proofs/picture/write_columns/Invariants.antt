use Rattle.std.proofs.Common.{◌+◌, drop}
use Rattle.text_out.proofs.Progress.{Progress}
use Rattle.svg_texts.specs.Shapes.{shape_text}
use Rattle.tracer.specs.Picture.{columns_from, drawn}
use Rattle.tracer.proofs.picture.write_columns.Given as goal

abbrev pub invariant-exchanges : goal.invariant-exchanges
invariant-exchanges g l = record {
  progress : Progress (g.W.Out.state l.fn.out) (g.W.Out.state l.out) (shape_text (columns_from l.measure.workers l.measure.most l.lines 1
      (drawn l.counts)))
      (shape_text (columns_from l.measure.workers l.measure.most l.lines (l.i + 1) (drop l.i (drawn l.counts))));
}
