use Rattle.std.proofs.Common.{drop}
use Rattle.text_out.proofs.Progress.{Progress}
use Rattle.exchange_counts.specs.CountedExchanges.{exchange_at}
use Rattle.svg_texts.specs.Shapes.{shape_text}
use Rattle.tracer.specs.Picture.{received_bars}
use Rattle.tracer.proofs.bars.write_received_bars.Given as goal

abbrev pub invariant-workers : goal.invariant-workers
invariant-workers g l = record {
  progress : Progress (g.W.Out.state l.fn.out) (g.W.Out.state l.out)
      (shape_text (received_bars l.scale.most l.scale.x 0 (exchange_at l.counts l.k).received))
      (shape_text (received_bars l.scale.most l.scale.x l.w (drop l.w (exchange_at l.counts l.k).received)));
}
