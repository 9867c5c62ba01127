use Rattle.std.proofs.Common.{refl}
use Rattle.sweeps.specs.declared.measure.Measure.TheVariants.{Time, Work}
use Rattle.svg_texts.specs.Shapes.{shape_text}
use Rattle.pictures.specs.Sizes.Picture.{frame_of, panel}
use Rattle.text_out.proofs.Progress.{breaks_off, closes, goes_on, starts}
use Rattle.pictures.proofs.sizes.picture.write_panels.Goals as goal

pub returns-in_err-write_measured : goal.returns-in_err-write_measured
returns-in_err-write_measured g c =
    let part1 = shape_text (panel c.args.name.now (frame_of Time 220 c.args.rows.now) c.args.rows.now) in
    let part2 = shape_text (panel c.args.name.now (frame_of Work 450 c.args.rows.now) c.args.rows.now) in
    record {
      written = breaks_off _ _ _ _ _ part1 part2 c.from_residual.result _ c.from_residual.ensures.1 (starts _ _) refl
          c.in_err-write_measured.ensures.written;
    }

pub returns : goal.returns
returns g c =
    let part1 = shape_text (panel c.args.name.now (frame_of Time 220 c.args.rows.now) c.args.rows.now) in
    let part2 = shape_text (panel c.args.name.now (frame_of Work 450 c.args.rows.now) c.args.rows.now) in
    let after1 = goes_on _ _ _ _ _ part1 part2 (starts _ _) refl c.in_ok-write_measured.ensures.written in
    record {
      written = closes _ _ _ _ _ c.write_measured-2.result after1 c.write_measured-2.ensures.written;
    }
