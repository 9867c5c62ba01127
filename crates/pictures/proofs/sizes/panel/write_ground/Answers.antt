use Rattle.std.proofs.Common.{refl, ◌++◌}
use Rattle.svg_texts.specs.Shapes.{shape_text}
use Rattle.pictures.specs.Sizes.Picture.{axes, name_label, ticks}
use Rattle.text_out.proofs.Progress.{breaks_off, closes, goes_on, starts}
use Rattle.pictures.proofs.sizes.panel.write_ground.Goals as goal

pub returns-in_err-write_ticks : goal.returns-in_err-write_ticks
returns-in_err-write_ticks g c =
    let part1 = shape_text (ticks c.args.frame) in
    let part2 = shape_text (axes c.args.frame) in
    let part3 = shape_text (name_label c.args.name.now c.args.frame) in
    record {
      written = breaks_off _ _ _ _ _ part1 (part2 ++ part3) c.from_residual.result _ c.from_residual.ensures.1 (starts _ _) refl
          c.in_err-write_ticks.ensures.written;
    }

pub returns-in_err-write_axes : goal.returns-in_err-write_axes
returns-in_err-write_axes g c =
    let part1 = shape_text (ticks c.args.frame) in
    let part2 = shape_text (axes c.args.frame) in
    let part3 = shape_text (name_label c.args.name.now c.args.frame) in
    let after1 = goes_on _ _ _ _ _ part1 (part2 ++ part3) (starts _ _) refl c.in_ok-write_ticks.ensures.written in
    record {
      written = breaks_off _ _ _ _ _ part2 part3 c.from_residual-in_err-write_axes.result _ c.from_residual-in_err-write_axes.ensures.1
          after1 refl c.in_err-write_axes.ensures.written;
    }

pub returns : goal.returns
returns g c =
    let part1 = shape_text (ticks c.args.frame) in
    let part2 = shape_text (axes c.args.frame) in
    let part3 = shape_text (name_label c.args.name.now c.args.frame) in
    let after1 = goes_on _ _ _ _ _ part1 (part2 ++ part3) (starts _ _) refl c.in_ok-write_ticks.ensures.written in
    let after2 = goes_on _ _ _ _ _ part2 part3 after1 refl c.in_ok-write_axes.ensures.written in
    record {
      written = closes _ _ _ _ _ c.write_name.result after2 c.write_name.ensures.written;
    }
