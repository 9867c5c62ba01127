use Rattle.std.proofs.Common.{refl}
use Rattle.std.specs.Prelude.{codes}
use Rattle.exchange_counts.specs.CountedExchanges.{exchange_at}
use Rattle.tracer.specs.Traced.{spaced}
use Rattle.text_out.proofs.Progress.{breaks_off, closes, goes_on, starts}
use Rattle.tracer.proofs.exchange_line.write_named_received.Goals as goal

pub returns-in_err-write_all : goal.returns-in_err-write_all
returns-in_err-write_all g c =
    let part1 = codes " received" in
    let part2 = spaced (exchange_at c.args.counts.now c.args.k).received in
    record {
      written = breaks_off _ _ _ _ _ part1 part2 c.from_residual.result _ c.from_residual.ensures.1 (starts _ _) refl
          c.in_err-write_all.ensures.written;
    }

pub returns : goal.returns
returns g c =
    let part1 = codes " received" in
    let part2 = spaced (exchange_at c.args.counts.now c.args.k).received in
    let after1 = goes_on _ _ _ _ _ part1 part2 (starts _ _) refl c.in_ok-write_all.ensures.written in
    record {
      written = closes _ _ _ _ _ c.write_received.result after1 c.write_received.ensures.written;
    }
