use Rattle.std.proofs.Common.{refl, ◌++◌, sym}
use Rattle.svg_texts.specs.Shapes.{shape_text}
use Rattle.tracer.specs.Picture.{above, around, columns_from, drawn}
use Rattle.text_out.proofs.Progress.{breaks_off, closes, goes_on, starts}
use Rattle.tracer.proofs.picture.write_shape.Goals as goal

pub returns-in_err-write_above : goal.returns-in_err-write_above
returns-in_err-write_above g c =
    let part1 = shape_text (above c.args.measure.workers c.len-exchanges.result) in
    let part2 = shape_text (columns_from c.args.measure.workers c.args.measure.most c.args.lines.now 1 (drawn c.args.counts.now)) in
    let part3 = shape_text (around c.args.width c.args.measure.most c.args.outcome.now) in
    record {
      written = breaks_off _ _ _ _ _ part1 (part2 ++ part3) c.from_residual.result _ c.from_residual.ensures.1 (starts _ _) (λ i.
          shape_text (above c.args.measure.workers (sym c.len-exchanges.ensures i)) ++ (shape_text (columns_from c.args.measure.workers
          c.args.measure.most c.args.lines.now 1 (drawn c.args.counts.now)) ++ shape_text (around c.args.width c.args.measure.most
          c.args.outcome.now))) c.in_err-write_above.ensures.written;
    }

pub returns-in_err-write_columns : goal.returns-in_err-write_columns
returns-in_err-write_columns g c =
    let part1 = shape_text (above c.args.measure.workers c.len-exchanges.result) in
    let part2 = shape_text (columns_from c.args.measure.workers c.args.measure.most c.args.lines.now 1 (drawn c.args.counts.now)) in
    let part3 = shape_text (around c.args.width c.args.measure.most c.args.outcome.now) in
    let after1 = goes_on _ _ _ _ _ part1 (part2 ++ part3) (starts _ _) (λ i. shape_text (above c.args.measure.workers (sym
    c.len-exchanges.ensures i)) ++ (shape_text (columns_from c.args.measure.workers c.args.measure.most c.args.lines.now 1 (drawn
    c.args.counts.now)) ++ shape_text (around c.args.width c.args.measure.most c.args.outcome.now)))
    c.in_ok-write_above.ensures.written in
    record {
      written = breaks_off _ _ _ _ _ part2 part3 c.from_residual-in_err-write_columns.result _
          c.from_residual-in_err-write_columns.ensures.1 after1 refl c.in_err-write_columns.ensures.written;
    }

pub returns : goal.returns
returns g c =
    let part1 = shape_text (above c.args.measure.workers c.len-exchanges.result) in
    let part2 = shape_text (columns_from c.args.measure.workers c.args.measure.most c.args.lines.now 1 (drawn c.args.counts.now)) in
    let part3 = shape_text (around c.args.width c.args.measure.most c.args.outcome.now) in
    let after1 = goes_on _ _ _ _ _ part1 (part2 ++ part3) (starts _ _) (λ i. shape_text (above c.args.measure.workers (sym
    c.len-exchanges.ensures i)) ++ (shape_text (columns_from c.args.measure.workers c.args.measure.most c.args.lines.now 1 (drawn
    c.args.counts.now)) ++ shape_text (around c.args.width c.args.measure.most c.args.outcome.now)))
    c.in_ok-write_above.ensures.written in
    let after2 = goes_on _ _ _ _ _ part2 part3 after1 refl c.in_ok-write_columns.ensures.written in
    record {
      written = closes _ _ _ _ _ c.write_around.result after2 c.write_around.ensures.written;
    }
