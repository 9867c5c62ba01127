use Rattle.std.proofs.Common.{refl, ◌++◌}
use Rattle.svg_texts.specs.Shapes.{shape_text}
use Rattle.pictures.specs.Sizes.Marks.{curve, marks}
use Rattle.pictures.specs.Sizes.Picture.{all_labels}
use Rattle.text_out.proofs.Progress.{breaks_off, closes, goes_on, starts}
use Rattle.pictures.proofs.sizes.panel.write_figure.Goals as goal

pub returns-in_err-write_curve : goal.returns-in_err-write_curve
returns-in_err-write_curve g c =
    let part1 = shape_text (curve c.args.frame c.args.rows.now) in
    let part2 = shape_text (marks c.args.name.now c.args.frame c.args.rows.now) in
    let part3 = shape_text (all_labels c.args.frame c.args.rows.now) in
    record {
      written = breaks_off _ _ _ _ _ part1 (part2 ++ part3) c.from_residual.result _ c.from_residual.ensures.1 (starts _ _) refl
          c.in_err-write_curve.ensures.written;
    }

pub returns-in_err-write_marks : goal.returns-in_err-write_marks
returns-in_err-write_marks g c =
    let part1 = shape_text (curve c.args.frame c.args.rows.now) in
    let part2 = shape_text (marks c.args.name.now c.args.frame c.args.rows.now) in
    let part3 = shape_text (all_labels c.args.frame c.args.rows.now) in
    let after1 = goes_on _ _ _ _ _ part1 (part2 ++ part3) (starts _ _) refl c.in_ok-write_curve.ensures.written in
    record {
      written = breaks_off _ _ _ _ _ part2 part3 c.from_residual-in_err-write_marks.result _ c.from_residual-in_err-write_marks.ensures.1
          after1 refl c.in_err-write_marks.ensures.written;
    }

pub returns : goal.returns
returns g c =
    let part1 = shape_text (curve c.args.frame c.args.rows.now) in
    let part2 = shape_text (marks c.args.name.now c.args.frame c.args.rows.now) in
    let part3 = shape_text (all_labels c.args.frame c.args.rows.now) in
    let after1 = goes_on _ _ _ _ _ part1 (part2 ++ part3) (starts _ _) refl c.in_ok-write_curve.ensures.written in
    let after2 = goes_on _ _ _ _ _ part2 part3 after1 refl c.in_ok-write_marks.ensures.written in
    record {
      written = closes _ _ _ _ _ c.write_all_labels.result after2 c.write_all_labels.ensures.written;
    }
