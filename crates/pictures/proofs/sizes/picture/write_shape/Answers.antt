use Rattle.std.proofs.Common.{refl}
use Rattle.svg_texts.specs.Shapes.{shape_text}
use Rattle.pictures.specs.Sizes.Picture.{cut, panels}
use Rattle.text_out.proofs.Progress.{breaks_off, closes, goes_on, starts}
use Rattle.pictures.proofs.sizes.picture.write_shape.Goals as goal

pub returns-in_err-write_cut : goal.returns-in_err-write_cut
returns-in_err-write_cut g c =
    let part1 = shape_text (cut c.args.count) in
    let part2 = shape_text (panels c.args.name.now c.args.rows.now) in
    record {
      written = breaks_off _ _ _ _ _ part1 part2 c.from_residual.result _ c.from_residual.ensures.1 (starts _ _) refl
          c.in_err-write_cut.ensures.written;
    }

pub returns : goal.returns
returns g c =
    let part1 = shape_text (cut c.args.count) in
    let part2 = shape_text (panels c.args.name.now c.args.rows.now) in
    let after1 = goes_on _ _ _ _ _ part1 part2 (starts _ _) refl c.in_ok-write_cut.ensures.written in
    record {
      written = closes _ _ _ _ _ c.write_panels.result after1 c.write_panels.ensures.written;
    }
