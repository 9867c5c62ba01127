use Rattle.std.proofs.Common.{refl}
use Rattle.svg_texts.specs.Shapes.{filled_text, stroke_text}
use Rattle.text_out.proofs.Progress.{breaks_off, closes, goes_on, starts}
use Rattle.svg_texts.proofs.shapes.write_paint.Goals as goal

pub returns-in_err-write_fill : goal.returns-in_err-write_fill
returns-in_err-write_fill g c =
    let part1 = filled_text c.args.paint.now.fill in
    let part2 = stroke_text c.args.paint.now.stroke in
    record {
      written = breaks_off _ _ _ _ _ part1 part2 c.from_residual.result _ c.from_residual.ensures.1 (starts _ _) refl
          c.in_err-write_fill.ensures.written;
    }

pub returns : goal.returns
returns g c =
    let part1 = filled_text c.args.paint.now.fill in
    let part2 = stroke_text c.args.paint.now.stroke in
    let after1 = goes_on _ _ _ _ _ part1 part2 (starts _ _) refl c.in_ok-write_fill.ensures.written in
    record {
      written = closes _ _ _ _ _ c.write_stroke.result after1 c.write_stroke.ensures.written;
    }
