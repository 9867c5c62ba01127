use Rattle.std.proofs.Common.{refl, ◌++◌}
use Rattle.std.specs.Prelude.{codes}
use Rattle.svg_texts.specs.Shapes.{points_text}
use Rattle.pictures.specs.Sizes.Marks.{points}
use Rattle.text_out.proofs.Progress.{breaks_off, closes, goes_on, starts}
use Rattle.pictures.proofs.sizes.line.write_curve.Goals as goal

pub returns-in_err-open_points : goal.returns-in_err-open_points
returns-in_err-open_points g c =
    let part1 = codes "<polyline fill='none' stroke='#000000' points='" in
    let part2 = points_text (points c.args.frame c.args.rows.now) in
    let part3 = codes "'/>\n" in
    record {
      written = breaks_off _ _ _ _ _ part1 (part2 ++ part3) c.from_residual.result _ c.from_residual.ensures.1 (starts _ _) refl
          c.in_err-open_points.ensures.written;
    }

pub returns-in_err-write_points : goal.returns-in_err-write_points
returns-in_err-write_points g c =
    let part1 = codes "<polyline fill='none' stroke='#000000' points='" in
    let part2 = points_text (points c.args.frame c.args.rows.now) in
    let part3 = codes "'/>\n" in
    let after1 = goes_on _ _ _ _ _ part1 (part2 ++ part3) (starts _ _) refl c.in_ok-open_points.ensures.written in
    record {
      written = breaks_off _ _ _ _ _ part2 part3 c.from_residual-in_err-write_points.result _
          c.from_residual-in_err-write_points.ensures.1 after1 refl c.in_err-write_points.ensures.written;
    }

pub returns : goal.returns
returns g c =
    let part1 = codes "<polyline fill='none' stroke='#000000' points='" in
    let part2 = points_text (points c.args.frame c.args.rows.now) in
    let part3 = codes "'/>\n" in
    let after1 = goes_on _ _ _ _ _ part1 (part2 ++ part3) (starts _ _) refl c.in_ok-open_points.ensures.written in
    let after2 = goes_on _ _ _ _ _ part2 part3 after1 refl c.in_ok-write_points.ensures.written in
    record {
      written = closes _ _ _ _ _ c.close_points.result after2 c.close_points.ensures.written;
    }
