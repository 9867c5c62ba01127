use Rattle.std.proofs.Common.{refl}
use Rattle.exchange_counts.specs.CountedExchanges.{exchange_at}
use Rattle.svg_texts.specs.Shapes.{shape_text}
use Rattle.tracer.specs.Picture.{received_bars, sent_bars}
use Rattle.text_out.proofs.Progress.{breaks_off, closes, goes_on, starts}
use Rattle.tracer.proofs.columns.write_bars.Goals as goal

pub returns-in_err-write_sent_bars : goal.returns-in_err-write_sent_bars
returns-in_err-write_sent_bars g c =
    let part1 = shape_text (sent_bars c.args.scale.most c.args.scale.x 0 (exchange_at c.args.counts.now c.args.k).sent) in
    let part2 = shape_text (received_bars c.args.scale.most c.args.scale.x 0 (exchange_at c.args.counts.now c.args.k).received) in
    record {
      written = breaks_off _ _ _ _ _ part1 part2 c.from_residual.result _ c.from_residual.ensures.1 (starts _ _) refl
          c.in_err-write_sent_bars.ensures.written;
    }

pub returns : goal.returns
returns g c =
    let part1 = shape_text (sent_bars c.args.scale.most c.args.scale.x 0 (exchange_at c.args.counts.now c.args.k).sent) in
    let part2 = shape_text (received_bars c.args.scale.most c.args.scale.x 0 (exchange_at c.args.counts.now c.args.k).received) in
    let after1 = goes_on _ _ _ _ _ part1 part2 (starts _ _) refl c.in_ok-write_sent_bars.ensures.written in
    record {
      written = closes _ _ _ _ _ c.write_received_bars.result after1 c.write_received_bars.ensures.written;
    }
