use Rattle.std.proofs.Common.{refl, ◌++◌}
use Rattle.std.specs.Prelude.{codes}
use Rattle.svg_texts.specs.declared.lettering.Anchor.TheVariants.{Start}
use Rattle.svg_texts.specs.declared.lettering.Face.TheVariants as face
use Rattle.svg_texts.specs.Plain.{lettered}
use Rattle.svg_texts.specs.Shapes.{text_front, words_text}
use Rattle.pictures.specs.Sizes.Picture.{first_words}
use Rattle.text_out.proofs.Progress.{breaks_off, closes, goes_on, starts}
use Rattle.pictures.proofs.sizes.picture.write_first.Goals as goal

pub returns-in_err-open_label : goal.returns-in_err-open_label
returns-in_err-open_label g c =
    let part1 = text_front 168 20 (lettered Start face.Plain) in
    let part2 = words_text (first_words c.args.count) in
    let part3 = codes "</text>\n" in
    record {
      written = breaks_off _ _ _ _ _ part1 (part2 ++ part3) c.from_residual.result _ c.from_residual.ensures.1 (starts _ _) refl
          c.in_err-open_label.ensures.written;
    }

pub returns-in_err-write_first_words : goal.returns-in_err-write_first_words
returns-in_err-write_first_words g c =
    let part1 = text_front 168 20 (lettered Start face.Plain) in
    let part2 = words_text (first_words c.args.count) in
    let part3 = codes "</text>\n" in
    let after1 = goes_on _ _ _ _ _ part1 (part2 ++ part3) (starts _ _) refl c.in_ok-open_label.ensures.written in
    record {
      written = breaks_off _ _ _ _ _ part2 part3 c.from_residual-in_err-write_first_words.result _
          c.from_residual-in_err-write_first_words.ensures.1 after1 refl c.in_err-write_first_words.ensures.written;
    }

pub returns : goal.returns
returns g c =
    let part1 = text_front 168 20 (lettered Start face.Plain) in
    let part2 = words_text (first_words c.args.count) in
    let part3 = codes "</text>\n" in
    let after1 = goes_on _ _ _ _ _ part1 (part2 ++ part3) (starts _ _) refl c.in_ok-open_label.ensures.written in
    let after2 = goes_on _ _ _ _ _ part2 part3 after1 refl c.in_ok-write_first_words.ensures.written in
    record {
      written = closes _ _ _ _ _ c.close_text.result after2 c.close_text.ensures.written;
    }
