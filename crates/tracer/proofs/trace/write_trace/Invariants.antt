use Rattle.std.proofs.Common.{◌+◌, drop}
use Rattle.text_out.proofs.Progress.{Progress}
use Rattle.tracer.specs.Traced.{lines_from, trace_text}
use Rattle.tracer.proofs.trace.write_trace.Given as goal

abbrev pub invariant-exchanges : goal.invariant-exchanges
invariant-exchanges g l = record {
  progress : Progress (g.W.Out.state l.fn.out) (g.W.Out.state l.out) (trace_text l.lines l.counts)
      (lines_from l.lines (l.i + 1) (drop l.i l.counts));
}
