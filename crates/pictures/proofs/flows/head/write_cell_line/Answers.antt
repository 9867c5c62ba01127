use Rattle.std.proofs.Common.{refl, ◌++◌}
use Rattle.std.specs.Prelude.{codes}
use Rattle.svg_texts.specs.Shapes.{text_front, words_text}
use Rattle.std.proofs.Common.{length}
use Rattle.pram_model.specs.Layout.{total_size}
use Rattle.pictures.specs.Looks.{plain}
use Rattle.pictures.specs.Flows.Picture.{cells_words, only_words}
use Rattle.text_out.proofs.Progress.{breaks_off, closes, goes_on, starts}
use Rattle.pictures.proofs.flows.head.write_cell_line.Goals as goal

pub returns-in_err-open_label : goal.returns-in_err-open_label
returns-in_err-open_label g c =
    let part1 = text_front 12 38 plain in
    let part2 = words_text (cells_words (total_size c.args.layout.now) c.args.rows c.args.found) ++ words_text (only_words c.args.only.now
    (length c.args.layout.now)) in
    let part3 = codes "</text>\n" in
    record {
      written = breaks_off _ _ _ _ _ part1 (part2 ++ part3) c.from_residual.result _ c.from_residual.ensures.1 (starts _ _) refl
          c.in_err-open_label.ensures.written;
    }

pub returns-in_err-write_cell_words : goal.returns-in_err-write_cell_words
returns-in_err-write_cell_words g c =
    let part1 = text_front 12 38 plain in
    let part2 = words_text (cells_words (total_size c.args.layout.now) c.args.rows c.args.found) ++ words_text (only_words c.args.only.now
    (length c.args.layout.now)) in
    let part3 = codes "</text>\n" in
    let after1 = goes_on _ _ _ _ _ part1 (part2 ++ part3) (starts _ _) refl c.in_ok-open_label.ensures.written in
    record {
      written = breaks_off _ _ _ _ _ part2 part3 c.from_residual-in_err-write_cell_words.result _
          c.from_residual-in_err-write_cell_words.ensures.1 after1 refl c.in_err-write_cell_words.ensures.written;
    }

pub returns : goal.returns
returns g c =
    let part1 = text_front 12 38 plain in
    let part2 = words_text (cells_words (total_size c.args.layout.now) c.args.rows c.args.found) ++ words_text (only_words c.args.only.now
    (length c.args.layout.now)) in
    let part3 = codes "</text>\n" in
    let after1 = goes_on _ _ _ _ _ part1 (part2 ++ part3) (starts _ _) refl c.in_ok-open_label.ensures.written in
    let after2 = goes_on _ _ _ _ _ part2 part3 after1 refl c.in_ok-write_cell_words.ensures.written in
    record {
      written = closes _ _ _ _ _ c.close_text.result after2 c.close_text.ensures.written;
    }
