use Rattle.std.proofs.Common.{refl, ◌++◌}
use Rattle.std.specs.Prelude.{codes}
use Rattle.svg_texts.specs.Shapes.{form_text, paint_text}
use Rattle.text_out.proofs.Progress.{breaks_off, closes, goes_on, starts}
use Rattle.svg_texts.proofs.shapes.write_form.Goals as goal

pub returns-in_err-write_place : goal.returns-in_err-write_place
returns-in_err-write_place g c =
    let part1 = form_text c.args.form.now in
    let part2 = paint_text c.args.paint.now in
    let part3 = codes "/>\n" in
    record {
      written = breaks_off _ _ _ _ _ part1 (part2 ++ part3) c.from_residual.result _ c.from_residual.ensures.1 (starts _ _) refl
          c.in_err-write_place.ensures.written;
    }

pub returns-in_err-write_paint : goal.returns-in_err-write_paint
returns-in_err-write_paint g c =
    let part1 = form_text c.args.form.now in
    let part2 = paint_text c.args.paint.now in
    let part3 = codes "/>\n" in
    let after1 = goes_on _ _ _ _ _ part1 (part2 ++ part3) (starts _ _) refl c.in_ok-write_place.ensures.written in
    record {
      written = breaks_off _ _ _ _ _ part2 part3 c.from_residual-in_err-write_paint.result _ c.from_residual-in_err-write_paint.ensures.1
          after1 refl c.in_err-write_paint.ensures.written;
    }

pub returns : goal.returns
returns g c =
    let part1 = form_text c.args.form.now in
    let part2 = paint_text c.args.paint.now in
    let part3 = codes "/>\n" in
    let after1 = goes_on _ _ _ _ _ part1 (part2 ++ part3) (starts _ _) refl c.in_ok-write_place.ensures.written in
    let after2 = goes_on _ _ _ _ _ part2 part3 after1 refl c.in_ok-write_paint.ensures.written in
    record {
      written = closes _ _ _ _ _ c.write_all.result after2 c.write_all.ensures.written;
    }
