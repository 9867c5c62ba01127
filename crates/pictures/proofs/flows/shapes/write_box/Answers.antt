use Rattle.std.proofs.Common.{refl}
use Rattle.svg_texts.specs.declared.lettering.Anchor.TheVariants as anchor
use Rattle.pictures.specs.Flows.MarkShapes.{outline, value_shape}
use Rattle.svg_texts.specs.Shapes.{shape_text}
use Rattle.std.specs.Prelude.{◌+◌}
use Rattle.text_out.proofs.Progress.{breaks_off, closes, goes_on, starts}
use Rattle.pictures.proofs.flows.shapes.write_box.Goals as goal

pub returns-in_err-write_outline : goal.returns-in_err-write_outline
returns-in_err-write_outline g c =
    let part1 = shape_text (outline c.args.x c.args.y c.args.wide) in
    let part2 = shape_text (value_shape c.args.x (c.args.y + 4) anchor.Middle c.args.value.now) in
    record {
      written = breaks_off _ _ _ _ _ part1 part2 c.from_residual.result _ c.from_residual.ensures.1 (starts _ _) refl
          c.in_err-write_outline.ensures.written;
    }

pub returns : goal.returns
returns g c =
    let part1 = shape_text (outline c.args.x c.args.y c.args.wide) in
    let part2 = shape_text (value_shape c.args.x (c.args.y + 4) anchor.Middle c.args.value.now) in
    let after1 = goes_on _ _ _ _ _ part1 part2 (starts _ _) refl c.in_ok-write_outline.ensures.written in
    record {
      written = closes _ _ _ _ _ c.write_value.result after1 c.write_value.ensures.written;
    }
