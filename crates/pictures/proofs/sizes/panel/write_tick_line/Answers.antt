use Rattle.std.proofs.Common.{refl}
use Rattle.std.proofs.Common.{◌+◌}
use Rattle.svg_texts.specs.declared.colour.Colour.TheVariants.{Silver}
use Rattle.svg_texts.specs.declared.lettering.Anchor.TheVariants.{End}
use Rattle.svg_texts.specs.declared.lettering.Face.TheVariants as face
use Rattle.svg_texts.specs.Plain.{line, number}
use Rattle.svg_texts.specs.Shapes.{shape_text}
use Rattle.text_out.proofs.Progress.{breaks_off, closes, goes_on, starts}
use Rattle.pictures.proofs.sizes.panel.write_tick_line.Goals as goal

pub returns-in_err-write_line : goal.returns-in_err-write_line
returns-in_err-write_line g c =
    let part1 = shape_text (line 162 c.args.y 664 c.args.y Silver) in
    let part2 = shape_text (number 156 (c.args.y + 4) End face.Plain c.args.number) in
    record {
      written = breaks_off _ _ _ _ _ part1 part2 c.from_residual.result _ c.from_residual.ensures.1 (starts _ _) refl
          c.in_err-write_line.ensures.written;
    }

pub returns : goal.returns
returns g c =
    let part1 = shape_text (line 162 c.args.y 664 c.args.y Silver) in
    let part2 = shape_text (number 156 (c.args.y + 4) End face.Plain c.args.number) in
    let after1 = goes_on _ _ _ _ _ part1 part2 (starts _ _) refl c.in_ok-write_line.ensures.written in
    record {
      written = closes _ _ _ _ _ c.write_number.result after1 c.write_number.ensures.written;
    }
