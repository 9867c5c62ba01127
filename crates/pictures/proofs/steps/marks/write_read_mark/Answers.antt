use Rattle.std.proofs.Common.{refl}
use Rattle.std.proofs.Common.{◌+◌}
use Rattle.std.specs.Prelude.{codes}
use Rattle.svg_texts.specs.declared.colour.Colour.TheVariants as colour
use Rattle.svg_texts.specs.Shapes.{shape_text}
use Rattle.pictures.specs.Steps.Marks.{field}
use Rattle.pictures.specs.Steps.Paints.{white_note}
use Rattle.text_out.proofs.Progress.{breaks_off, closes, goes_on, starts}
use Rattle.pictures.proofs.steps.marks.write_read_mark.Goals as goal

pub returns-in_err-write_field : goal.returns-in_err-write_field
returns-in_err-write_field g c =
    let part1 = shape_text (field (c.args.at.x + 2) (c.args.at.y + 2) colour.Blue) in
    let part2 = shape_text (white_note (c.args.at.x + 12) (c.args.at.y + 13) (codes "r")) in
    record {
      written = breaks_off _ _ _ _ _ part1 part2 c.from_residual.result _ c.from_residual.ensures.1 (starts _ _) refl
          c.in_err-write_field.ensures.written;
    }

pub returns : goal.returns
returns g c =
    let part1 = shape_text (field (c.args.at.x + 2) (c.args.at.y + 2) colour.Blue) in
    let part2 = shape_text (white_note (c.args.at.x + 12) (c.args.at.y + 13) (codes "r")) in
    let after1 = goes_on _ _ _ _ _ part1 part2 (starts _ _) refl c.in_ok-write_field.ensures.written in
    record {
      written = closes _ _ _ _ _ c.write_white.result after1 c.write_white.ensures.written;
    }
