use Rattle.std.proofs.Common.{refl}
use Rattle.std.specs.Prelude.{codes}
use Rattle.svg_texts.specs.Shapes.{shape_text, Text, Letters}
use Rattle.pictures.specs.Looks.{plain}
use Rattle.pictures.specs.Flows.Picture.{seven_key}
use Rattle.text_out.proofs.Progress.{breaks_off, closes, goes_on, starts}
use Rattle.pictures.proofs.flows.key.write_box_key.Goals as goal

pub returns-in_err-write_seven : goal.returns-in_err-write_seven
returns-in_err-write_seven g c =
    let part1 = shape_text seven_key in
    let part2 = shape_text (Text 40 61 plain (Letters (codes "written, with the new value"))) in
    record {
      written = breaks_off _ _ _ _ _ part1 part2 c.from_residual.result _ c.from_residual.ensures.1 (starts _ _) refl
          c.in_err-write_seven.ensures.written;
    }

pub returns : goal.returns
returns g c =
    let part1 = shape_text seven_key in
    let part2 = shape_text (Text 40 61 plain (Letters (codes "written, with the new value"))) in
    let after1 = goes_on _ _ _ _ _ part1 part2 (starts _ _) refl c.in_ok-write_seven.ensures.written in
    record {
      written = closes _ _ _ _ _ c.write_label.result after1 c.write_label.ensures.written;
    }
