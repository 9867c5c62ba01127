use Rattle.std.proofs.Common.{drop}
use Rattle.text_out.proofs.Progress.{Progress}
use Rattle.exchange_counts.specs.CountedExchanges.{exchange_at}
use Rattle.svg_texts.specs.Shapes.{shape_text}
use Rattle.tracer.specs.Picture.{sent_bars}
use Rattle.tracer.proofs.bars.write_sent_bars.Given as goal

abbrev pub invariant-workers : goal.invariant-workers
invariant-workers g l = record {
  progress : Progress (g.W.Out.state l.fn.out) (g.W.Out.state l.out)
      (shape_text (sent_bars l.scale.most l.scale.x 0 (exchange_at l.counts l.k).sent))
      (shape_text (sent_bars l.scale.most l.scale.x l.w (drop l.w (exchange_at l.counts l.k).sent)));
}
