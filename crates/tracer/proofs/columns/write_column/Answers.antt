use Rattle.std.proofs.Common.{◌++◌, sym}
use Rattle.exchange_counts.specs.CountedExchanges.{exchange_at}
use Rattle.svg_texts.specs.Shapes.{shape_text}
use Rattle.tracer.specs.Picture.{column_body, column_head}
use Rattle.text_out.proofs.Progress.{breaks_off, closes, goes_on, starts}
use Rattle.tracer.proofs.columns.write_column.Goals as goal

pub returns-in_err-write_head : goal.returns-in_err-write_head
returns-in_err-write_head g c =
    let part1 = shape_text (column_head c.column_left-x.result c.column_width-width.result c.args.k c.args.line (exchange_at
    c.args.counts.now c.args.k)) in
    let part2 = shape_text (column_body c.args.measure.most c.column_left-x.result (exchange_at c.args.counts.now c.args.k)) in
    record {
      written = breaks_off _ _ _ _ _ part1 part2 c.from_residual.result _ c.from_residual.ensures.1 (starts _ _) (λ i. shape_text
          (column_head (sym c.column_left-x.ensures.left i) (sym c.column_width-width.ensures.width i) c.args.k c.args.line (exchange_at
          c.args.counts.now c.args.k)) ++ shape_text (column_body c.args.measure.most (sym c.column_left-x.ensures.left i) (exchange_at
          c.args.counts.now c.args.k))) c.in_err-write_head.ensures.written;
    }

pub returns : goal.returns
returns g c =
    let part1 = shape_text (column_head c.column_left-x.result c.column_width-width.result c.args.k c.args.line (exchange_at
    c.args.counts.now c.args.k)) in
    let part2 = shape_text (column_body c.args.measure.most c.column_left-x.result (exchange_at c.args.counts.now c.args.k)) in
    let after1 = goes_on _ _ _ _ _ part1 part2 (starts _ _) (λ i. shape_text (column_head (sym c.column_left-x.ensures.left i) (sym
    c.column_width-width.ensures.width i) c.args.k c.args.line (exchange_at c.args.counts.now c.args.k)) ++ shape_text (column_body
    c.args.measure.most (sym c.column_left-x.ensures.left i) (exchange_at c.args.counts.now c.args.k)))
    c.in_ok-write_head.ensures.written in
    record {
      written = closes _ _ _ _ _ c.write_body.result after1 c.write_body.ensures.written;
    }
