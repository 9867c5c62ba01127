use Rattle.std.proofs.Common.{drop}
use Rattle.text_out.proofs.Progress.{Progress}
use Rattle.exchange_counts.specs.CountedExchanges.{exchange_at}
use Rattle.tracer.specs.Traced.{spaced}
use Rattle.tracer.proofs.exchange_line.write_received.Given as goal

abbrev pub invariant-workers : goal.invariant-workers
invariant-workers g l = record {
  progress : Progress (g.W.Out.state l.fn.out) (g.W.Out.state l.out) (spaced (exchange_at l.counts l.k).received)
      (spaced (drop l.w (exchange_at l.counts l.k).received));
}
