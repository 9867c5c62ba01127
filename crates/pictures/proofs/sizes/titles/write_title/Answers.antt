use Rattle.std.proofs.Common.{refl}
use Rattle.svg_texts.specs.Letters.{letters}
use Rattle.svg_texts.specs.Shapes.{words_text}
use Rattle.pictures.specs.Sizes.Titles.{row_words}
use Rattle.text_out.proofs.Progress.{breaks_off, closes, goes_on, starts}
use Rattle.pictures.proofs.sizes.titles.write_title.Goals as goal

pub returns-in_err-write_letters : goal.returns-in_err-write_letters
returns-in_err-write_letters g c =
    let part1 = letters c.args.name.now in
    let part2 = words_text (row_words c.args.measure c.args.row.now) in
    record {
      written = breaks_off _ _ _ _ _ part1 part2 c.from_residual.result _ c.from_residual.ensures.1 (starts _ _) refl
          c.in_err-write_letters.ensures.written;
    }

pub returns : goal.returns
returns g c =
    let part1 = letters c.args.name.now in
    let part2 = words_text (row_words c.args.measure c.args.row.now) in
    let after1 = goes_on _ _ _ _ _ part1 part2 (starts _ _) refl c.in_ok-write_letters.ensures.written in
    record {
      written = closes _ _ _ _ _ c.write_row.result after1 c.write_row.ensures.written;
    }
