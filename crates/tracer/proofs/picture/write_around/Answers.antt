use Rattle.std.proofs.Common.{refl}
use Rattle.svg_texts.specs.declared.lettering.Anchor.TheVariants.{Start}
use Rattle.svg_texts.specs.declared.lettering.Face.TheVariants as face
use Rattle.svg_texts.specs.Plain.{label}
use Rattle.svg_texts.specs.Shapes.{shape_text}
use Rattle.tracer.specs.Picture.{scale}
use Rattle.text_out.proofs.Progress.{breaks_off, closes, goes_on, starts}
use Rattle.tracer.proofs.picture.write_around.Goals as goal

pub returns-in_err-write_scale : goal.returns-in_err-write_scale
returns-in_err-write_scale g c =
    let part1 = shape_text (scale c.args.width c.args.most) in
    let part2 = shape_text (label 12 372 Start face.Plain c.args.outcome.now) in
    record {
      written = breaks_off _ _ _ _ _ part1 part2 c.from_residual.result _ c.from_residual.ensures.1 (starts _ _) refl
          c.in_err-write_scale.ensures.written;
    }

pub returns : goal.returns
returns g c =
    let part1 = shape_text (scale c.args.width c.args.most) in
    let part2 = shape_text (label 12 372 Start face.Plain c.args.outcome.now) in
    let after1 = goes_on _ _ _ _ _ part1 part2 (starts _ _) refl c.in_ok-write_scale.ensures.written in
    record {
      written = closes _ _ _ _ _ c.write_label.result after1 c.write_label.ensures.written;
    }
