use Rattle.std.proofs.Common.{refl, ◌++◌}
use Rattle.std.specs.Prelude.{codes}
use Rattle.svg_texts.specs.Shapes.{shape_text, words_text}
use Rattle.pictures.specs.Sizes.Marks.{row_shape}
use Rattle.pictures.specs.Sizes.Titles.{title_words}
use Rattle.text_out.proofs.Progress.{breaks_off, closes, goes_on, starts}
use Rattle.pictures.proofs.sizes.marks.write_mark.Goals as goal

pub returns-in_err-open_titled : goal.returns-in_err-open_titled
returns-in_err-open_titled g c =
    let part1 = codes "<g><title>" in
    let part2 = words_text (title_words c.args.name.now c.args.frame.measure c.args.row.now) in
    let part3 = codes "</title>\n" in
    let part4 = shape_text (row_shape c.args.frame c.args.row.now) in
    let part5 = codes "</g>\n" in
    record {
      written = breaks_off _ _ _ _ _ part1 (part2 ++ (part3 ++ (part4 ++ part5))) c.from_residual.result _ c.from_residual.ensures.1
          (starts _ _) refl c.in_err-open_titled.ensures.written;
    }

pub returns-in_err-write_title : goal.returns-in_err-write_title
returns-in_err-write_title g c =
    let part1 = codes "<g><title>" in
    let part2 = words_text (title_words c.args.name.now c.args.frame.measure c.args.row.now) in
    let part3 = codes "</title>\n" in
    let part4 = shape_text (row_shape c.args.frame c.args.row.now) in
    let part5 = codes "</g>\n" in
    let after1 = goes_on _ _ _ _ _ part1 (part2 ++ (part3 ++ (part4 ++ part5))) (starts _ _) refl c.in_ok-open_titled.ensures.written in
    record {
      written = breaks_off _ _ _ _ _ part2 (part3 ++ (part4 ++ part5)) c.from_residual-in_err-write_title.result _
          c.from_residual-in_err-write_title.ensures.1 after1 refl c.in_err-write_title.ensures.written;
    }

pub returns-in_err-write_title_end : goal.returns-in_err-write_title_end
returns-in_err-write_title_end g c =
    let part1 = codes "<g><title>" in
    let part2 = words_text (title_words c.args.name.now c.args.frame.measure c.args.row.now) in
    let part3 = codes "</title>\n" in
    let part4 = shape_text (row_shape c.args.frame c.args.row.now) in
    let part5 = codes "</g>\n" in
    let after1 = goes_on _ _ _ _ _ part1 (part2 ++ (part3 ++ (part4 ++ part5))) (starts _ _) refl c.in_ok-open_titled.ensures.written in
    let after2 = goes_on _ _ _ _ _ part2 (part3 ++ (part4 ++ part5)) after1 refl c.in_ok-write_title.ensures.written in
    record {
      written = breaks_off _ _ _ _ _ part3 (part4 ++ part5) c.from_residual-in_err-write_title_end.result _
          c.from_residual-in_err-write_title_end.ensures.1 after2 refl c.in_err-write_title_end.ensures.written;
    }

pub returns-in_err-write_row_shape : goal.returns-in_err-write_row_shape
returns-in_err-write_row_shape g c =
    let part1 = codes "<g><title>" in
    let part2 = words_text (title_words c.args.name.now c.args.frame.measure c.args.row.now) in
    let part3 = codes "</title>\n" in
    let part4 = shape_text (row_shape c.args.frame c.args.row.now) in
    let part5 = codes "</g>\n" in
    let after1 = goes_on _ _ _ _ _ part1 (part2 ++ (part3 ++ (part4 ++ part5))) (starts _ _) refl c.in_ok-open_titled.ensures.written in
    let after2 = goes_on _ _ _ _ _ part2 (part3 ++ (part4 ++ part5)) after1 refl c.in_ok-write_title.ensures.written in
    let after3 = goes_on _ _ _ _ _ part3 (part4 ++ part5) after2 refl c.in_ok-write_title_end.ensures.written in
    record {
      written = breaks_off _ _ _ _ _ part4 part5 c.from_residual-in_err-write_row_shape.result _
          c.from_residual-in_err-write_row_shape.ensures.1 after3 refl c.in_err-write_row_shape.ensures.written;
    }

pub returns : goal.returns
returns g c =
    let part1 = codes "<g><title>" in
    let part2 = words_text (title_words c.args.name.now c.args.frame.measure c.args.row.now) in
    let part3 = codes "</title>\n" in
    let part4 = shape_text (row_shape c.args.frame c.args.row.now) in
    let part5 = codes "</g>\n" in
    let after1 = goes_on _ _ _ _ _ part1 (part2 ++ (part3 ++ (part4 ++ part5))) (starts _ _) refl c.in_ok-open_titled.ensures.written in
    let after2 = goes_on _ _ _ _ _ part2 (part3 ++ (part4 ++ part5)) after1 refl c.in_ok-write_title.ensures.written in
    let after3 = goes_on _ _ _ _ _ part3 (part4 ++ part5) after2 refl c.in_ok-write_title_end.ensures.written in
    let after4 = goes_on _ _ _ _ _ part4 part5 after3 refl c.in_ok-write_row_shape.ensures.written in
    record {
      written = closes _ _ _ _ _ c.close_titled.result after4 c.close_titled.ensures.written;
    }
