use Rattle.std.proofs.Common.{refl, ◌++◌}
use Rattle.std.specs.Prelude.{codes}
use Rattle.svg_texts.specs.Shapes.{text_front, words_text}
use Rattle.pictures.specs.Looks.{plain}
use Rattle.pictures.specs.Steps.Picture.{rows_words}
use Rattle.text_out.proofs.Progress.{breaks_off, closes, goes_on, starts}
use Rattle.pictures.proofs.steps.head.write_rows_line.Goals as goal

pub returns-in_err-open_plain : goal.returns-in_err-open_plain
returns-in_err-open_plain g c =
    let part1 = text_front 12 38 plain in
    let part2 = words_text (rows_words c.args.rows) in
    let part3 = codes "</text>\n" in
    record {
      written = breaks_off _ _ _ _ _ part1 (part2 ++ part3) c.from_residual.result _ c.from_residual.ensures.1 (starts _ _) refl
          c.in_err-open_plain.ensures.written;
    }

pub returns-in_err-write_rows : goal.returns-in_err-write_rows
returns-in_err-write_rows g c =
    let part1 = text_front 12 38 plain in
    let part2 = words_text (rows_words c.args.rows) in
    let part3 = codes "</text>\n" in
    let after1 = goes_on _ _ _ _ _ part1 (part2 ++ part3) (starts _ _) refl c.in_ok-open_plain.ensures.written in
    record {
      written = breaks_off _ _ _ _ _ part2 part3 c.from_residual-in_err-write_rows.result _ c.from_residual-in_err-write_rows.ensures.1
          after1 refl c.in_err-write_rows.ensures.written;
    }

pub returns : goal.returns
returns g c =
    let part1 = text_front 12 38 plain in
    let part2 = words_text (rows_words c.args.rows) in
    let part3 = codes "</text>\n" in
    let after1 = goes_on _ _ _ _ _ part1 (part2 ++ part3) (starts _ _) refl c.in_ok-open_plain.ensures.written in
    let after2 = goes_on _ _ _ _ _ part2 part3 after1 refl c.in_ok-write_rows.ensures.written in
    record {
      written = closes _ _ _ _ _ c.close_text.result after2 c.close_text.ensures.written;
    }
