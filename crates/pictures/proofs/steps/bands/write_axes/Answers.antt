use Rattle.std.proofs.Common.{refl}
use Rattle.std.proofs.Common.{◌-◌}
use Rattle.std.specs.Prelude.{codes}
use Rattle.svg_texts.specs.Shapes.{shape_text}
use Rattle.pictures.specs.Steps.Paints.{axis}
use Rattle.text_out.proofs.Progress.{breaks_off, closes, goes_on, starts}
use Rattle.pictures.proofs.steps.bands.write_axes.Goals as goal

pub returns-in_err-write_axis : goal.returns-in_err-write_axis
returns-in_err-write_axis g c =
    let part1 = shape_text (axis (c.args.top - 26) (codes "statement")) in
    let part2 = shape_text (axis (c.args.top - 9) (codes "processor")) in
    record {
      written = breaks_off _ _ _ _ _ part1 part2 c.from_residual.result _ c.from_residual.ensures.1 (starts _ _) refl
          c.in_err-write_axis.ensures.written;
    }

pub returns : goal.returns
returns g c =
    let part1 = shape_text (axis (c.args.top - 26) (codes "statement")) in
    let part2 = shape_text (axis (c.args.top - 9) (codes "processor")) in
    let after1 = goes_on _ _ _ _ _ part1 part2 (starts _ _) refl c.in_ok-write_axis.ensures.written in
    record {
      written = closes _ _ _ _ _ c.write_axis-2.result after1 c.write_axis-2.ensures.written;
    }
