use Rattle.std.proofs.Common.{◌++◌}
use Rattle.std.proofs.Common.{sym}
use Rattle.std.specs.Prelude.{take}
use Rattle.svg_texts.specs.Shapes.{shape_text}
use Rattle.pictures.specs.Flows.Drawing.{drawing_is}
use Rattle.pictures.specs.Flows.Picture.{counts, drawn_shape}
use Rattle.pictures.specs.Flows.Table.{table}
use Rattle.pictures.proofs.OfFlows.FactTexts.{table_is}
use Rattle.text_out.proofs.Progress.{breaks_off, closes, goes_on, starts}
use Rattle.pictures.proofs.flows.picture.write_shape.Goals as goal

pub returns-in_err-write_counts : goal.returns-in_err-write_counts
returns-in_err-write_counts g c =
    let drawn = sym (table_is c.args.layout.now c.args.text.now (drawing_is c.args.drawing.now) (take 64 c.args.found.now)) in
    let part1 = shape_text (counts c.args.layout.now c.args.only.now (drawing_is c.args.drawing.now) c.args.found.now) in
    let part2 = shape_text (drawn_shape c.args.layout.now c.args.text.now (drawing_is c.args.drawing.now) (take 64 c.args.found.now)) in
    record {
      written = breaks_off _ _ _ _ _ part1 (shape_text (table c.args.layout.now c.args.text.now (drawing_is c.args.drawing.now) (take 64
          c.args.found.now))) c.from_residual.result _ c.from_residual.ensures.1 (starts _ _) (λ i. part1 ++ drawn i)
          c.in_err-write_counts.ensures.written;
    }

pub returns : goal.returns
returns g c =
    let drawn = sym (table_is c.args.layout.now c.args.text.now (drawing_is c.args.drawing.now) (take 64 c.args.found.now)) in
    let part1 = shape_text (counts c.args.layout.now c.args.only.now (drawing_is c.args.drawing.now) c.args.found.now) in
    let part2 = shape_text (drawn_shape c.args.layout.now c.args.text.now (drawing_is c.args.drawing.now) (take 64 c.args.found.now)) in
    let after1 = goes_on _ _ _ _ _ part1 (shape_text (table c.args.layout.now c.args.text.now (drawing_is c.args.drawing.now) (take 64
    c.args.found.now))) (starts _ _) (λ i. part1 ++ drawn i) c.in_ok-write_counts.ensures.written in
    record {
      written = closes _ _ _ _ _ c.write_drawn.result after1 c.write_drawn.ensures.written;
    }
