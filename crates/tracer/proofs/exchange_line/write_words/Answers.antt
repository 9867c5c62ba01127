use Rattle.std.proofs.Common.{refl}
use Rattle.exchange_counts.specs.CountedExchanges.{exchange_at}
use Rattle.tracer.specs.Traced.{received_text, spaced}
use Rattle.text_out.proofs.Progress.{breaks_off, closes, goes_on, starts}
use Rattle.tracer.proofs.exchange_line.write_words.Goals as goal

pub returns-in_err-write_sent : goal.returns-in_err-write_sent
returns-in_err-write_sent g c =
    let part1 = spaced (exchange_at c.args.counts.now c.args.k).sent in
    let part2 = received_text (exchange_at c.args.counts.now c.args.k).received in
    record {
      written = breaks_off _ _ _ _ _ part1 part2 c.from_residual.result _ c.from_residual.ensures.1 (starts _ _) refl
          c.in_err-write_sent.ensures.written;
    }

pub returns : goal.returns
returns g c =
    let part1 = spaced (exchange_at c.args.counts.now c.args.k).sent in
    let part2 = received_text (exchange_at c.args.counts.now c.args.k).received in
    let after1 = goes_on _ _ _ _ _ part1 part2 (starts _ _) refl c.in_ok-write_sent.ensures.written in
    record {
      written = closes _ _ _ _ _ c.write_named_received.result after1 c.write_named_received.ensures.written;
    }
