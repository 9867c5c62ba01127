use Rattle.std.proofs.Common.{◌<◌, length, arith}
use Rattle.text_out.proofs.Writing.{writes_stopped}
use Rattle.text_out.proofs.Progress.{goes_on, stops}
use Rattle.tracer.proofs.TraceLemmas.{exchanges_at}
use Rattle.tracer.proofs.trace.write_trace.Goals as goal

-- the writer stopped within one line
pub returns-in_err-write_exchange : goal.returns-in_err-write_exchange
returns-in_err-write_exchange g c =
    let test = c.exchanges-test.true in
    let long = c.len-i-end.ensures in
    let below : c.exchanges.i < length c.args.counts.now = omega (arith, test, long) in
    record {
      written = writes_stopped _ _ _ c.from_residual.result _ c.from_residual.ensures.1
          (stops _ _ _ _ _ _ _ c.exchanges.invariant.progress (exchanges_at c.args.lines.now c.args.counts.now c.exchanges.i
          c.line_of.result below c.line_of.ensures)
          c.in_err-write_exchange.ensures.written);
    }

pub exchanges-preserved : goal.exchanges-preserved
exchanges-preserved g c =
    let test = c.exchanges-test.true in
    let long = c.len-i-end.ensures in
    let below : c.exchanges.i < length c.args.counts.now = omega (arith, test, long) in
    record {
      progress = goes_on _ _ _ _ _ _ _ c.exchanges.invariant.progress (exchanges_at c.args.lines.now c.args.counts.now c.exchanges.i
          c.line_of.result below c.line_of.ensures)
          c.in_ok-write_exchange.ensures.written;
    }
