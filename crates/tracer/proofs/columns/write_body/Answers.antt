use Rattle.std.proofs.Common.{◌++◌}
use Rattle.exchange_counts.specs.CountedExchanges.{exchange_at}
use Rattle.svg_texts.specs.Shapes.{shape_text}
use Rattle.tracer.specs.Picture.{bars, worker_numbers}
use Rattle.text_out.proofs.Progress.{breaks_off, closes, goes_on, starts}
use Rattle.tracer.proofs.columns.write_body.Goals as goal

pub returns-in_err-write_bars : goal.returns-in_err-write_bars
returns-in_err-write_bars g c =
    let part1 = shape_text (bars c.args.scale.most c.args.scale.x (exchange_at c.args.counts.now c.args.k)) in
    let part2 = shape_text (worker_numbers c.args.scale.x 0 c.workers-workers.result) in
    record {
      written = breaks_off _ _ _ _ _ part1 part2 c.from_residual.result _ c.from_residual.ensures.1 (starts _ _) (λ i. shape_text (bars
          c.args.scale.most c.args.scale.x (exchange_at c.args.counts.now c.args.k)) ++ shape_text (worker_numbers c.args.scale.x 0
          (c.workers-workers.ensures.sent c.args.k c.requires.first c.requires.last i))) c.in_err-write_bars.ensures.written;
    }

pub returns : goal.returns
returns g c =
    let part1 = shape_text (bars c.args.scale.most c.args.scale.x (exchange_at c.args.counts.now c.args.k)) in
    let part2 = shape_text (worker_numbers c.args.scale.x 0 c.workers-workers.result) in
    let after1 = goes_on _ _ _ _ _ part1 part2 (starts _ _) (λ i. shape_text (bars c.args.scale.most c.args.scale.x (exchange_at
    c.args.counts.now c.args.k)) ++ shape_text (worker_numbers c.args.scale.x 0 (c.workers-workers.ensures.sent c.args.k
    c.requires.first c.requires.last i))) c.in_ok-write_bars.ensures.written in
    record {
      written = closes _ _ _ _ _ c.write_worker_numbers.result after1 c.write_worker_numbers.ensures.written;
    }
