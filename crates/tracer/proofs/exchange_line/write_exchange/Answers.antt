use Rattle.std.proofs.Common.{◌++◌, sym}
use Rattle.superstep_machine.specs.Purposes.{purpose_is}
use Rattle.exchange_counts.specs.CountedExchanges.{exchange_at}
use Rattle.tracer.specs.Traced.{front_text, rest_text}
use Rattle.text_out.proofs.Progress.{breaks_off, closes, goes_on, starts}
use Rattle.tracer.proofs.exchange_line.write_exchange.Goals as goal

pub returns-in_err-write_front : goal.returns-in_err-write_front
returns-in_err-write_front g c =
    let part1 = front_text c.args.k (purpose_is c.exchange-purpose.result.0) in
    let part2 = rest_text c.args.line (exchange_at c.args.counts.now c.args.k) in
    record {
      written = breaks_off _ _ _ _ _ part1 part2 c.from_residual.result _ c.from_residual.ensures.1 (starts _ _)
          (λ i. front_text c.args.k (sym c.exchange-purpose.ensures.purpose i) ++ rest_text c.args.line
          (exchange_at c.args.counts.now c.args.k)) c.in_err-write_front.ensures.written;
    }

pub returns : goal.returns
returns g c =
    let part1 = front_text c.args.k (purpose_is c.exchange-purpose.result.0) in
    let part2 = rest_text c.args.line (exchange_at c.args.counts.now c.args.k) in
    let after1 = goes_on _ _ _ _ _ part1 part2 (starts _ _) (λ i. front_text c.args.k (sym c.exchange-purpose.ensures.purpose i) ++
    rest_text c.args.line (exchange_at c.args.counts.now c.args.k)) c.in_ok-write_front.ensures.written in
    record {
      written = closes _ _ _ _ _ c.write_rest.result after1 c.write_rest.ensures.written;
    }
